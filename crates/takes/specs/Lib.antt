pub mod Answers
pub mod Claims
pub mod Runs
pub mod Take
