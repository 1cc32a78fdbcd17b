mod Inboxes
mod Meeting
pub mod Places
mod Prefixes
mod StampedPrefixes
mod Waiting
mod Writes
