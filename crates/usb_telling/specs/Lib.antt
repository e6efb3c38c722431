pub mod Keys
pub mod Serial
pub mod Jobs
pub mod Told
