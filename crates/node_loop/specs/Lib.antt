pub use Rattle.node_log.specs.Events
pub use Rattle.closings.specs.Alone
pub use Rattle.closings.specs.Guarded
pub use Rattle.node_core.specs.CoreState as NodeCoreState
pub use Rattle.node_core.specs.Seen as NodeCoreSeen
pub use Rattle.node_core.specs.Steps as NodeCoreSteps
pub use Rattle.node_log.specs.NodeEventsSeen
pub use Rattle.node_log.specs.NodeEventsWords
pub use Rattle.node_log.specs.Openings
pub use Rattle.node_log.specs.Seen
pub mod Told
pub mod Waiting
pub mod Desks
pub mod Editions
pub mod Held
pub mod Owing
pub mod Steps
pub mod Items
pub mod Turned
pub mod Coming
pub mod Left
pub mod Answers
pub mod Dealings
pub mod Said
pub mod Sound
pub mod Telling
pub mod Returning
pub mod Words
