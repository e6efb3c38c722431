pub mod Counted
pub mod Turning
pub mod Moving
pub mod StopSteps
