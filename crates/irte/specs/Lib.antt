pub mod Answers
pub mod Irte
pub mod Source
