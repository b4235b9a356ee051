pub mod Goodness
pub mod Items
pub mod Meets
pub mod Ordered
pub mod Positions
pub mod Rows
pub mod Stores
