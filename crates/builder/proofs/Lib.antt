pub mod Builds
pub mod ItemLaws
pub mod Readied
pub mod Takes
