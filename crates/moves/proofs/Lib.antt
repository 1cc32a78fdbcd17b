pub mod Rules
pub mod Indices
pub mod Sends
pub mod SendTests
pub mod Invariants
pub mod Writes
