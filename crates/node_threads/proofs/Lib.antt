pub use Rattle.node_seats.proofs.Choosing
pub mod Places
mod Lines
mod Coming
mod Departing
mod Givers
mod Sending
mod Taking
mod Waiting
mod Dealing
mod Turns
pub mod Opening
mod Soundness
mod Pasts
mod Starting
mod Connecting
mod Seats
pub mod Rows
mod Standings
mod Gathering
mod Stopping
mod Comparing
mod Pairs
mod Consistency
mod Telling
pub mod Closing
