pub mod Chains
pub mod Lengths
pub mod Stored
pub mod Linked
pub mod Kept
