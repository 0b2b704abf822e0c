pub mod Layout
pub mod Chain
pub mod Changes
