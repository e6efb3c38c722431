pub mod Below
mod Positions
mod Lists
mod Host
mod Sound
mod Few
mod Own
mod Numbering
mod Apart
mod Homed
mod Asked
mod Pooled
mod Needed
mod Boarded
mod Steps
mod Turns
mod Taking
mod Answering
mod Probed
mod InFace
mod Begins
mod Bare
mod Ids
pub mod Facts
pub mod Short
mod Whole
mod Examples
