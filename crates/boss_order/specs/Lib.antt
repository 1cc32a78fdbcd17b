pub mod Boss
