pub use Rattle.world_events.specs.Events
pub use Rattle.world_events.specs.NodeEventsSeen
pub use Rattle.world_events.specs.Openings
pub use Rattle.world_events.specs.Refusals
pub mod Grammar
pub mod Commands
pub mod Printing
pub mod LockTexts
