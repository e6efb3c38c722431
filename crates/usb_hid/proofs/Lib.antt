pub mod Lost
pub mod Modifiers
pub mod Standing
pub mod Traces
pub mod Bits
pub mod Walks
pub mod Held
pub mod Examples
