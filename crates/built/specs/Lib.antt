pub mod Again
pub mod Claims
pub mod Inside
