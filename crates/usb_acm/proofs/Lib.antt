pub mod Streams
pub mod Standing
pub mod Told
pub mod Examples
