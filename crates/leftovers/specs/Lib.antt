pub use Rattle.headline.specs.Worlds
pub use Rattle.headline.specs.Clauses
pub mod Leftovers
