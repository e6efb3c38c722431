pub mod Draws
pub mod Generator
pub mod Readable
pub mod Summary
