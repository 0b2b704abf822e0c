pub mod Isolation
pub mod Lent
