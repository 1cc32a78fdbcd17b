mod Among
mod Copied
mod Filed
mod Ordered
pub mod Standing
