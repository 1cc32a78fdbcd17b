pub mod Notices
pub mod Shown
pub mod Entries
pub mod Rows
pub mod Beginning
