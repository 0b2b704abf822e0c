pub mod Copy
pub mod Region
pub mod Shared
