pub mod Reports
pub mod Changes
pub mod Keys
pub mod Keyboard
pub mod Down
pub mod Requests
