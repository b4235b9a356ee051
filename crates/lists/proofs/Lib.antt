pub mod Each
pub mod Every
pub mod Found
pub mod Over
pub mod Sweep
