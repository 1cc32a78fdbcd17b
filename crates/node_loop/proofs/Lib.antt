pub mod Telling
pub mod Logs
pub mod Letters
pub mod Faults
pub mod Concluding
pub mod Turning
pub mod Moving
pub mod Staying
pub mod Coming
pub mod Left
pub mod Answers
pub mod Trays
pub mod Dealing
pub mod Links
pub mod Saying
pub mod Doing
pub mod Owing
pub mod Updates
pub mod Standing
pub mod Starting
mod Present
pub mod Keeping
mod DoingFrom
pub mod StandingFrom
pub mod KeepingFrom
pub mod Beginning
pub mod BeginningFrom
pub mod Consistency
