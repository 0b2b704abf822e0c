pub mod Cases
pub mod Instances
pub mod InterruptFrames
pub mod Known
pub mod PostsThroughWindows
pub mod Seen
pub mod Takes
pub mod Translations
