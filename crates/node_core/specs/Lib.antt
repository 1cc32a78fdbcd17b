pub use Rattle.node_events.specs.Causes
pub use Rattle.node_events.specs.Letters
pub use Rattle.node_events.specs.Made
pub use Rattle.node_events.specs.Seen as NodeEventsSeen
pub mod CoreState
pub mod Seen
pub mod Steps
pub mod Locking
pub mod Joining
pub mod Rare
pub mod Copies
