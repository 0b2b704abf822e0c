pub mod Answers
pub mod Second
