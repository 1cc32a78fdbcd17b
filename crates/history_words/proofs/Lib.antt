pub mod Notices
pub mod Shown
pub mod Entries
pub mod Acting
pub mod Stood
pub mod Lone
pub mod Beginning
