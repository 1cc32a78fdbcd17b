mod Numbers
mod Orders
mod Elsewhere
mod Granted
mod Settling
pub mod Requests
mod LastRequests
pub mod Rising
pub mod Turns
mod Sampling
pub mod ByName
