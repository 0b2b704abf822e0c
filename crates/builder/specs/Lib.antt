pub mod Answers
pub mod Build
pub mod Items
pub mod Ready
pub mod Reasons
