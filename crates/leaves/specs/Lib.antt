pub mod Claims
pub mod Leaves
pub mod WellBuilt
