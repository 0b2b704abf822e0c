pub mod Exact
pub mod Turns
