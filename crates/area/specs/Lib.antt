pub mod Answer
pub mod Area
