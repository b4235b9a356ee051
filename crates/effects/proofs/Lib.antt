pub mod Cutting
pub mod Examples
pub mod Paging
pub mod Protecting
pub mod Sweeping
