pub mod Worlds
pub mod Clauses
pub mod Laws
pub mod Tie
