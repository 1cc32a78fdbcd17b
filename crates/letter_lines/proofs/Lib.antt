mod Cuts
mod Dots
mod Exits
mod ExactProcesses
mod ExactKinds
mod Readings
mod Written
mod Printed
pub mod Again
