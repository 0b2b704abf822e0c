pub mod Answer
pub mod Arguments
pub mod Buffer
pub mod Registers
pub mod Status
pub mod Translations
