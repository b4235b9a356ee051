pub mod Feeding
pub mod Finishing
