pub mod Told
pub mod Reader
pub mod Written
pub mod Writer
pub mod Answers
