pub mod Asking
mod Behind
pub mod Borrowing
mod Choosing
mod Heeding
mod Keeping
mod Knowing
mod Leaving
mod LockCalls
pub mod Looking
pub mod Meaning
mod Repeating
pub mod Retrying
mod Talking
pub mod Unasked
