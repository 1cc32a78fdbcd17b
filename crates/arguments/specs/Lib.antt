pub mod CommandLine
pub mod Faults
pub mod Nodes
pub mod Together
pub mod Reading
