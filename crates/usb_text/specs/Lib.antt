pub mod Bytes
pub mod Kinds
pub mod Lines
pub mod Print
pub mod Words
pub mod Written
