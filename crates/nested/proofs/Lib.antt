pub mod Firsts
pub mod Forks
pub mod Leads
pub mod Nested
pub mod Rests
pub mod Thens
pub mod Turns
pub mod Ways
