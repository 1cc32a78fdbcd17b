mod Parts
mod AtHand
mod Cuts
pub mod Known
pub mod Written
