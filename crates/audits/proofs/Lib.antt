pub mod Audits
pub mod Own
pub mod Reading
pub mod Verdicts
