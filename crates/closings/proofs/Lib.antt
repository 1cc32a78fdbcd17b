mod Letters
mod Worlds
mod Stepping
mod Advance
mod Runs
pub mod Merged
pub mod Onward
mod Fitting
pub mod Growing
pub mod Plainly
pub mod Vouching
mod Inserting
mod Entering
pub mod Gathering
pub mod Playing
