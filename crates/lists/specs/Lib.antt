pub mod Case
pub mod Each
pub mod Every
pub mod Found
pub mod Over
