pub mod Rights
pub mod Seconds
pub mod Told
