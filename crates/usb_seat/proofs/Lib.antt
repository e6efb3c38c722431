pub mod Submitting
pub mod Flagging
pub mod Dealt
pub mod Seated
