pub mod Answers
pub mod Context
pub mod Directory
pub mod Reason
pub mod Record
pub mod Root
pub mod Table
