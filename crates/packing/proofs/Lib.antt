pub mod ArgumentLines
pub mod FourWords
pub mod Registers
