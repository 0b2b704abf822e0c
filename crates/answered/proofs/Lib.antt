pub mod Faults
pub mod Memory
pub mod Translations
pub mod Interrupts
pub mod Entries
