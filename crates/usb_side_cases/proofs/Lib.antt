pub mod Counting
pub mod Closed
pub mod Crowds
