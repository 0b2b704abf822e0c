pub mod Answers
pub mod Reason
pub mod Record
pub mod Recorder
pub mod Slots
pub mod Total
