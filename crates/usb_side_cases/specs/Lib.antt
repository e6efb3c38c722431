pub mod Rounds
pub mod OneOut
pub mod Crowd
