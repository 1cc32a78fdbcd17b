pub use Rattle.world_events.proofs.Faults
pub mod Answers
pub mod Forgotten
