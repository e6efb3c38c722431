pub mod BackLines
pub mod BackWords
mod Examples
pub mod Ink
pub mod Kept
pub mod SaidLines
pub mod SaidWords
pub mod Setups
