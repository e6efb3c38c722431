pub mod AskedEach
pub mod Entries
pub mod Claims
pub mod Dues
pub mod Bytes
pub mod Stills
pub mod Scripts
pub mod Episodes
pub mod ByNumber
pub mod Owners
pub mod ExampleScenes
mod HandlerExamples
mod CallExamples
mod ClaimExamples
pub mod GivenBack
pub mod FinishedFlags
pub mod OneStatus
pub mod Acked
pub mod Carrying
pub mod Windows
pub mod Beginning
pub mod Firsts
pub mod Jobs
pub mod Heard
pub mod Moves
pub mod Resent
pub mod CoresSeen
pub mod Handling
pub mod Claimed
pub mod Homes
pub mod Numbered
pub mod NewCoresShown
pub mod Questions
pub mod Controls
pub mod Chained
pub mod Apt
pub mod Devices
pub mod NewDevices
