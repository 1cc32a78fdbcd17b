pub use Rattle.fitting.proofs.Theorem as FittingTheorem
pub use Rattle.fitting.proofs.Settling as FittingSettling
pub use Rattle.fitting.proofs.Chains as FittingChains
pub use Rattle.fitting.proofs.Accounts as FittingAccounts
pub use Rattle.moves.proofs.Indices
pub use Rattle.moves.proofs.Sends
pub use Rattle.moves.proofs.Rules
pub use Rattle.moves.proofs.Invariants
pub use Rattle.lock_sessions.proofs.Base
pub use Rattle.client_locks.proofs.Ids
pub use Rattle.client_locks.proofs.Clients as ClientLocksClients
pub use Rattle.client_locks.proofs.Numbers
pub use Rattle.client_locks.proofs.Keeping
pub use Rattle.client_locks.proofs.Opening
pub use Rattle.client_locks.proofs.Walking
pub use Rattle.client_locks.proofs.RoundNumbers
pub use Rattle.fitting.proofs.Tokens
pub use Rattle.replicas.proofs.States
pub use Rattle.client_locks.proofs.Serving
pub use Rattle.moves.proofs.Writes
pub use Rattle.lock_sessions.proofs.Sessions
pub use Rattle.replicas.proofs.Scenes
pub use Rattle.replicas.proofs.Mail
pub use Rattle.client_locks.proofs.Sessions as ClientLocksSessions
pub use Rattle.client_locks.proofs.Mail as ClientLocksMail
pub use Rattle.client_locks.proofs.Growing
pub use Rattle.moves.proofs.SendTests
pub use Rattle.client_locks.proofs.Calls
pub use Rattle.client_locks.proofs.Rounds
pub use Rattle.client_locks.proofs.Ongoing
pub use Rattle.lock_sessions.proofs.LockTables
pub use Rattle.lock_sessions.proofs.Locking
pub use Rattle.client_locks.proofs.Tallies
pub use Rattle.replicas.proofs.Legality
pub use Rattle.fitting.proofs.Gates
pub use Rattle.fitting.proofs.Joins
pub use Rattle.fitting.proofs.Departs
pub use Rattle.client_locks.proofs.Answering as ClientLocksAnswering
pub use Rattle.client_locks.proofs.Beginnings
pub use Rattle.client_locks.proofs.Calling
pub use Rattle.client_locks.proofs.Chains
pub use Rattle.client_locks.proofs.Deaths
pub use Rattle.client_locks.proofs.HeardChains
pub use Rattle.client_locks.proofs.LockTables as ClientLocksLockTables
pub use Rattle.client_locks.proofs.Numbering
pub use Rattle.client_locks.proofs.SessionMoves
pub use Rattle.client_locks.proofs.Steps as ClientLocksSteps
pub use Rattle.client_locks.proofs.Told as ClientLocksTold
pub use Rattle.client_locks.proofs.TriedEvents
pub use Rattle.client_locks.proofs.Tries
pub use Rattle.fitting.proofs.Made
pub use Rattle.fitting.proofs.Rests
pub use Rattle.fitting.proofs.Events
pub use Rattle.fitting.proofs.Pasts
pub use Rattle.fitting.proofs.Once
pub use Rattle.fitting.proofs.Unanswered as FittingUnanswered
pub use Rattle.lock_sessions.proofs.Rounds as LockSessionsRounds
pub use Rattle.replicas.proofs.Deciding
pub use Rattle.fitting.proofs.Still
pub mod Together
pub mod Same
pub mod Told
pub mod Meant
pub mod Asked
pub mod AskedSteps
pub mod Tied
pub mod Passing
pub mod Standing
pub mod Courses
pub mod Turns
pub mod Answering
pub mod Steps
pub mod Story
pub mod Fields
pub mod LockAnswers
pub mod LockSteps
pub mod LockEvents
pub mod OpenCalls
pub mod OpenEvents
pub mod Answered
pub mod Callers
pub mod Unanswered
pub mod Joiners
pub mod Welcomed
pub mod Spawning
pub mod NextSerial
pub mod Exiting
pub mod LookingUp
pub mod Causes
pub mod Refusals
pub mod LockRefusals
pub mod Joining
pub mod Reasons
pub mod Theorem
pub mod Agreeing
pub mod Entries
pub mod Fixed
pub mod Clients
pub mod Found
pub mod Making
pub mod Deciders
