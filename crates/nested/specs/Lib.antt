pub mod Answers
pub mod Pages
pub mod Positions
pub mod Then
pub mod Way
