pub use Rattle.node_events.specs.Causes as NodeEventsCauses
pub use Rattle.node_events.specs.Letters as NodeEventsLetters
pub use Rattle.node_events.specs.Made as NodeEventsMade
pub use Rattle.node_events.specs.Seen as NodeEventsSeen
pub use Rattle.node_events.specs.Words as NodeEventsWords
pub use Rattle.node_events.specs.declared.events.Event as NodeEvents
pub mod Events
pub mod Refusals
pub mod Openings
pub mod Words
