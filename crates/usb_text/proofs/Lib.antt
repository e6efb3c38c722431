pub mod Back
pub mod BackBytes
pub mod Cuts
pub mod Known
pub mod KnownBytes
pub mod Splits
