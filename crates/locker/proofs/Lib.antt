pub mod Endings
pub mod HeldRounds
pub mod Lists
pub mod Marks
pub mod Places
pub mod Rounds
