pub mod KeptTexts
pub mod Kept
pub mod Histories
pub mod HistoryState
