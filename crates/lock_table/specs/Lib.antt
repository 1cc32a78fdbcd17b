pub mod Filed
pub mod Grants
pub mod Ids
pub mod Index
pub mod Kept
pub mod Sharers
pub mod Sound
pub mod Verdicts
