pub mod Cases
pub mod Fate
pub mod Follow
pub mod Legal
pub mod Runs
pub mod Strike
