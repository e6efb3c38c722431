pub mod History
pub mod Ran
