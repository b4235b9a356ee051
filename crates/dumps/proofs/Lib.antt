pub mod Back
pub mod Dumps
pub mod Writing
