pub mod Rights
pub mod Tables
