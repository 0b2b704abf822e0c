pub mod Agreement
pub mod Members
pub mod RegionAnswers
