pub mod Cases
pub mod Changing
pub mod Demands
