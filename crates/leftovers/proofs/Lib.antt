pub use Rattle.headline.proofs.ClientLocksAnswering as Answering
pub use Rattle.headline.proofs.Beginnings
pub use Rattle.headline.proofs.Calling
pub use Rattle.headline.proofs.Calls
pub use Rattle.headline.proofs.Chains
pub use Rattle.headline.proofs.ClientLocksClients as Clients
pub use Rattle.headline.proofs.Deaths as ClientDeaths
pub use Rattle.headline.proofs.Growing
pub use Rattle.headline.proofs.HeardChains
pub use Rattle.headline.proofs.Ids
pub use Rattle.headline.proofs.Keeping
pub use Rattle.headline.proofs.ClientLocksLockTables as LockTables
pub use Rattle.headline.proofs.ClientLocksMail as Mail
pub use Rattle.headline.proofs.Numbering
pub use Rattle.headline.proofs.Numbers
pub use Rattle.headline.proofs.Ongoing
pub use Rattle.headline.proofs.Opening
pub use Rattle.headline.proofs.RoundNumbers
pub use Rattle.headline.proofs.Rounds
pub use Rattle.headline.proofs.Serving
pub use Rattle.headline.proofs.SessionMoves
pub use Rattle.headline.proofs.ClientLocksSessions as Sessions
pub use Rattle.headline.proofs.ClientLocksSteps as Steps
pub use Rattle.headline.proofs.Tallies
pub use Rattle.headline.proofs.ClientLocksTold as Told
pub use Rattle.headline.proofs.TriedEvents
pub use Rattle.headline.proofs.Tries
pub use Rattle.headline.proofs.Walking
pub use Rattle.headline.proofs.Answered
pub use Rattle.headline.proofs.Callers
pub use Rattle.headline.proofs.Clients as HeadlineClients
pub use Rattle.headline.proofs.FittingAccounts
pub use Rattle.headline.proofs.FittingChains
pub use Rattle.headline.proofs.FittingSettling
pub use Rattle.headline.proofs.FittingTheorem
pub use Rattle.headline.proofs.Found
pub use Rattle.headline.proofs.LockAnswers
pub use Rattle.headline.proofs.LockEvents
pub use Rattle.headline.proofs.Passing
pub use Rattle.headline.proofs.Steps as HeadlineSteps
pub use Rattle.headline.proofs.Story
pub use Rattle.headline.proofs.Theorem
pub use Rattle.headline.proofs.Tied
pub use Rattle.headline.proofs.Together
pub use Rattle.headline.proofs.Turns
pub use Rattle.headline.proofs.Unanswered
pub use Rattle.headline.proofs.Made
pub use Rattle.headline.proofs.Base
pub use Rattle.walk.proofs.Events
pub use Rattle.walk.proofs.Orders
pub use Rattle.walk.proofs.Walk
pub use Rattle.headline.proofs.OpenCalls
pub use Rattle.headline.proofs.Rests
pub use Rattle.headline.proofs.Events as FittingEvents
pub use Rattle.headline.proofs.Making
pub use Rattle.headline.proofs.Pasts
pub use Rattle.headline.proofs.Gates
pub use Rattle.headline.proofs.States
pub use Rattle.headline.proofs.Tokens
pub use Rattle.headline.proofs.Once
pub use Rattle.headline.proofs.FittingUnanswered
pub use Rattle.headline.proofs.OpenEvents
pub use Rattle.headline.proofs.Locking
pub use Rattle.headline.proofs.Sessions as LockSessionsSessions
pub use Rattle.headline.proofs.LockSessionsRounds
pub use Rattle.headline.proofs.Scenes
pub use Rattle.headline.proofs.Mail as ReplicasMail
pub use Rattle.headline.proofs.Deciding
pub use Rattle.headline.proofs.LockTables as LockSessionsLockTables
pub use Rattle.headline.proofs.Courses
pub use Rattle.headline.proofs.Still
pub use Rattle.headline.proofs.Asked
pub use Rattle.headline.proofs.Exiting
pub mod Grounds
pub mod Deaths
pub mod Parts
pub mod GrantLists
pub mod Departures
pub mod RoundFacts
pub mod Phases
pub mod Near
pub mod Rest
pub mod RestWork
pub mod RestCalls
pub mod RestEvents
pub mod Granted
pub mod Requests
pub mod Takes
pub mod Members
pub mod Freed
pub mod Families
pub mod Quiet
pub mod LocksTold
pub mod Started
pub mod Knocked
pub mod Owners
pub mod Names
pub mod Extends
pub mod Verdicts
pub mod Doomed
pub mod DoomedEvents
pub mod Carried
pub mod WhenFree
pub mod Nothing
