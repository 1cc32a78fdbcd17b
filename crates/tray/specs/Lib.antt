pub mod Held
pub mod Draining
pub mod Faults
