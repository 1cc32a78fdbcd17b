pub mod Alone
pub mod Guarded
pub mod Merging
pub mod Laws
