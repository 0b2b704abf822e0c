pub mod Good
pub mod Powers
pub mod Refusals
