pub mod Bounded
pub mod Exactly
pub mod Finite
pub mod Runs
pub mod Rows
