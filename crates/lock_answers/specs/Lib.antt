pub use Rattle.leftovers.specs.Worlds
pub use Rattle.leftovers.specs.Clauses
pub use Rattle.leftovers.specs.Leftovers
pub mod QuietCalls
pub mod ClientLocks
