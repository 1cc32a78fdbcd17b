pub use Rattle.node_loop.specs.Dealings as LoopDealings
pub mod Sending
pub mod Orders
pub mod Links
pub mod Saying
pub mod Wirings
pub mod Starting
pub mod Hearing
pub mod Dealings
pub mod Order
pub mod Printing
pub mod Runs
pub mod Returning
