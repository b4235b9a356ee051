pub mod Agreeing
pub mod Lowest
