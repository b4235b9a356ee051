pub mod Answering
pub mod Questions
