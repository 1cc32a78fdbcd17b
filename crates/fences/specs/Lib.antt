pub mod Grants
pub mod Laws
pub mod Named
pub mod Sample
