pub mod Calls
pub mod FirstBad
pub mod Meters
pub mod Recording
pub mod Takes
