pub mod Answers
pub mod Areas
