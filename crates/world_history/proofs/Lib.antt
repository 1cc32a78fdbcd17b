pub mod Departures
pub mod Entries
mod Replaced
