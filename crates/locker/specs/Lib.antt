pub mod Ends
pub mod RoundState
pub mod Laws
