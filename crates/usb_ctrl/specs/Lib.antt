pub mod Setup
pub mod Requests
pub mod Enumeration
pub mod Attaching
