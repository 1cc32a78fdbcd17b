pub mod Texts
mod Counts
mod Refused
mod Targets
mod Words
