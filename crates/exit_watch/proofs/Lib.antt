pub mod Owners
mod Serials
mod Sets
mod Suspects
mod Exits
pub mod Keys
mod Joining
mod Counting
