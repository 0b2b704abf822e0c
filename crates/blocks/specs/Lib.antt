pub mod Block
pub mod Written
