pub mod Places
pub mod Ordering
pub mod Dealing
pub mod Own
mod Rising
mod Said
pub mod Among
pub mod Leading
mod Printing
mod Spelling
mod Running
mod Listing
mod Returning
