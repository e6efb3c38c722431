pub mod Facts
pub mod Handled
mod Examples
