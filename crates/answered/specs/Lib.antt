pub mod Answered
pub mod Told
pub mod Claims
pub mod Packed
