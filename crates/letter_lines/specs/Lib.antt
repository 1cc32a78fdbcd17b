pub use Rattle.node_events.specs.Letters
pub mod Processes
pub mod Grammar
pub mod Lines
pub mod Parts
pub mod Gathered
pub mod Laws
pub mod Refusals
