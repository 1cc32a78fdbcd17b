pub mod Changes
pub mod Index
pub mod Owners
pub mod Places
