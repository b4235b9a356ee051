pub mod Cases
pub mod Multiples
pub mod Pass
pub mod Powers
pub mod Search
