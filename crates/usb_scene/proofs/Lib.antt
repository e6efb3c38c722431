mod Allowed
mod CallCodes
pub mod Carried
mod Counting
mod Devices
mod Drafts
mod Examples
mod FirstBad
mod GoodLines
mod HeldCounts
mod Naming
pub mod Operations
mod Placed
pub mod PrintedScenes
mod Pushed
mod Reading
mod Scenes
mod Scripts
mod Sound
mod SoundCalls
mod Splitting
mod Targets
pub mod WellRead
mod Whole
