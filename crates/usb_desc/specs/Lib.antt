pub mod Spell
pub mod Good
pub mod Cut
pub mod Growth
pub mod Read
pub mod Device
pub mod FirstFault
