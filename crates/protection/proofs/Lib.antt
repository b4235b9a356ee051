pub mod Flagging
pub mod Splits
pub mod Words
