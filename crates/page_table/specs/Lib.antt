pub mod Cases
pub mod Entry
pub mod Frames
pub mod Limits
