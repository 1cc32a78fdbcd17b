pub mod Calls
pub mod LockCallsState
pub mod Standing
