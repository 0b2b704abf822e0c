pub mod Admission
pub mod Answers
pub mod Refusal
pub mod Registers
pub mod Source
