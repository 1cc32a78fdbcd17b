pub mod Causes
pub mod Letters
pub mod Made
pub mod Seen
pub mod Words
