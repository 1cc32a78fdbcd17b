pub use Rattle.shared_table.proofs.Onward
pub use Rattle.shared_table.proofs.Taking
pub use Rattle.shared_table.proofs.Going
pub mod Holders
pub mod Choosing
mod Coming
mod Leaving
mod Granting
mod Sittings
pub mod Telling
pub mod ShownLengths
mod Noting
mod Lasting
