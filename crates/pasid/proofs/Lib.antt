pub mod Records
pub mod Wide
