pub mod Answers
pub mod Filled
pub mod Mapping
pub mod Rows
pub mod Search
pub mod Spans
pub mod Told
