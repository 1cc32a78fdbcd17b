pub use Rattle.getting_through.specs.NodeNames
pub use Rattle.getting_through.specs.NamedWorld
pub use Rattle.getting_through.specs.NamedScript
pub use Rattle.getting_through.specs.Worlds
pub use Rattle.getting_through.specs.WorldsOfNames
pub use Rattle.getting_through.specs.Leftovers as LeftoversOfWorlds
pub use Rattle.getting_through.specs.NobodyBack
pub use Rattle.node_core.specs.CoreState as NodeCoreState
pub use Rattle.node_core.specs.NodeEventsSeen
pub use Rattle.node_core.specs.Seen as NodeCoreSeen
pub use Rattle.node_core.specs.Steps as NodeCoreSteps
pub use Rattle.world_events.specs.Events
pub use Rattle.world_events.specs.Openings as EventsOpenings
pub use Rattle.world_events.specs.Refusals
pub mod Links
pub mod Mail
pub mod Cores
pub mod Histories
pub mod Openings
pub mod WorldState
pub mod Seen
pub mod Whole
pub mod Restarting
pub mod Steps
pub mod Admissions
pub mod Starting
pub mod Playing
pub mod Agreeing
pub mod Locks
pub mod Leftovers
pub mod Settling
pub mod Finishing
pub mod Counting
pub mod Seats
