pub mod Tests
pub mod Steps
pub mod Apart
pub mod Reading
pub mod Writes
pub mod Filling
pub mod RoundTrip
