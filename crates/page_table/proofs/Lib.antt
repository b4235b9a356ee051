pub mod Cases
pub mod Frames
pub mod Masks
pub mod Packing
