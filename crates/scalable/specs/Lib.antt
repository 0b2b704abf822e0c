pub mod Answers
pub mod Isolation
pub mod Lookup
pub mod Named
pub mod Requests
