pub mod Notifications
pub mod Serial
pub mod Acm
pub mod Requests
pub mod Told
