pub mod Scalable
