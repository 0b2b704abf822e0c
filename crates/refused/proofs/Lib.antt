pub mod NoneBad
