pub mod Causes
pub mod Codes
pub mod Ends
pub mod Lends
pub mod Limits
pub mod Table
pub mod Rows
