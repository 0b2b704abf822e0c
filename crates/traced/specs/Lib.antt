pub mod Entry
pub mod Well
pub mod Decoded
pub mod Answers
