pub mod Others
pub mod Sets
