pub mod Held
pub mod Engine
pub mod Claims
pub mod Keys
pub mod Numbers
pub mod Lent
