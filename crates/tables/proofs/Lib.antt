pub mod Changes
pub mod Folds
