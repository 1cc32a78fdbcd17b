pub mod Faults
pub mod MeshState
pub mod Mailboxes
pub mod MeshEnds
pub mod Moves
pub mod Reopening
pub mod Rule
