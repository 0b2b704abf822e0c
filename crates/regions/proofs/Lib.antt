pub mod KnownTables
pub mod Regions
pub mod TableOutside
