pub mod Calls
pub mod Counts
pub mod Ops
pub mod Transactions
pub mod Work
