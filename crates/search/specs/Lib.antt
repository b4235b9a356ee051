pub mod Cases
pub mod Free
