pub mod Good
pub mod Item
pub mod Layout
pub mod Meet
pub mod Position
pub mod Store
