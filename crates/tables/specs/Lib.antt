pub mod Answers
pub mod Mapped
pub mod Pages
pub mod Tables
pub mod Unmapped
pub mod Way
