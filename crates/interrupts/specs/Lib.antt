pub mod Answers
pub mod Claims
pub mod Descriptor
pub mod Interrupts
pub mod Post
pub mod RaisedBy
pub mod Request
