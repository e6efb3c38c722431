pub mod Attachings
pub mod Devices
