pub mod Answers
pub mod FirstBad
