pub mod Answers
pub mod Claims
pub mod Completion
pub mod Requests
pub mod Rights
