pub mod Faults
mod Openings
