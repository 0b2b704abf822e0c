pub mod Meter
pub mod Refused
pub mod Row
pub mod Runs
