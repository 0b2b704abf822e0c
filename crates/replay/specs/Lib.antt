pub mod Again
pub mod Replayed
pub mod Answers
pub mod Claims
