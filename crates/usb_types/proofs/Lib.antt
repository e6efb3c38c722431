pub mod Exact
pub mod Seen
