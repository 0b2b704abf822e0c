pub mod Laid
pub mod Tests
pub mod Turns
pub mod Whole
