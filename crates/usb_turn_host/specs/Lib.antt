pub mod Stock
pub mod Turning
pub mod Server
pub mod Whole
pub mod Opening
pub mod Setup
