pub mod Question
pub mod Tests
