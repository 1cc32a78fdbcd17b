pub mod Script
pub mod Headers
pub mod Played
