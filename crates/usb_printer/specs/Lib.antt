pub mod Ids
pub mod Jobs
pub mod Printer
pub mod Whole
pub mod Requests
