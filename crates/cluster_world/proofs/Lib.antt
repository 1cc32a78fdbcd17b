pub use Rattle.getting_through.proofs.NobodyBack
pub use Rattle.getting_through.proofs.Theorem
pub use Rattle.getting_through.proofs.ClientLocks
pub use Rattle.getting_through.proofs.Nothing
pub use Rattle.getting_through.proofs.NamedRuns
pub use Rattle.getting_through.proofs.LeftOfNames
pub use Rattle.getting_through.proofs.Lifting
pub use Rattle.node_core.proofs.Bounds
pub use Rattle.world_events.proofs.Faults
pub mod Naming
mod Posting
mod Rooms
mod Mailing
mod Outboxes
mod Mails
mod Cores
mod Waiting
pub mod Listed
mod Steps
mod Plays
mod Taking
mod Admissions
mod Holding
mod Deliveries
mod Starting
mod Untold
mod Succeeding
mod Restarting
mod Returning
mod Replaced
mod Entered
pub mod Agreeing
pub mod Locks
pub mod Leftovers
mod Running
pub mod Settling
mod Refused
pub mod Finishing
mod Verdicts
mod OneEvent
mod Winning
mod Spent
mod Counting
mod Seats
mod Unmade
