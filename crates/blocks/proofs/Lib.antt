pub mod Sums
pub mod Tested
pub mod Frames
pub mod OneByte
pub mod Laid
pub mod Finished
