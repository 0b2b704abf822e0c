pub mod Sames
pub mod Asked
pub mod Exactly
pub mod Own
pub mod Steps
