pub mod Keys
pub mod Laws
pub mod LockIds
pub mod NodeLists
pub mod NodeSets
pub mod Nodes
pub mod Rules
pub mod Spelling
