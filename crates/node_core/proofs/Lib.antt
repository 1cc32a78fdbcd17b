pub mod Bounds
mod Whole
mod Writing
mod Sends
mod Rooms
mod Copying
mod Receivers
mod ReceiversOfLocks
mod ReceiversOfOperations
mod ReceiversOfLetters
mod ReceiversOfEvents
mod Rules
mod Rounds
mod Reading
mod Refusals
mod LockRefusals
mod Exits
mod Noting
mod Calls
mod Judging
mod Opening
mod Each
mod Locking
mod Naming
mod CallEnds
mod CallsOf
pub mod Gone
pub mod Replacing
mod Leaving
mod Numbers
pub mod Stepping
mod Tables
mod Joining
mod Queues
