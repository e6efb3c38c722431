pub mod Io
pub mod Words
pub mod Status
pub mod Top
