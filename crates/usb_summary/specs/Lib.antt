pub mod Counts
pub mod Summed
