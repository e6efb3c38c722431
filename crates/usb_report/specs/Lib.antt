pub mod Numbered
pub mod Names
pub mod Listing
pub mod Telling
pub mod Calls
pub mod Report
