pub mod Draining
pub mod Slots
