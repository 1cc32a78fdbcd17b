pub mod Retried
pub mod HeldUp
pub mod NoDeadEnd
