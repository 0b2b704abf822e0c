pub mod Answers
pub mod Known
pub mod Outside
pub mod Region
pub mod Walkable
