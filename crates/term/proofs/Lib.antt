mod Keys
mod Algebra
pub mod ExactNodes
mod ExactPids
mod ExactTexts
pub mod NodeLists
pub mod NodePlaces
pub mod NodeSets
pub mod Numbers
mod NodeTexts
mod Latest
pub mod Older
pub mod OneNode
pub mod NamesOf
mod Parts
mod Places
mod ExactRules
pub mod Serials
pub mod Texts
pub mod Subsets
pub mod Succeeded
pub mod Mapping
pub mod NodeSetTexts
