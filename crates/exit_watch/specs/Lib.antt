pub mod Spans
pub mod Faults
pub mod WatchState
