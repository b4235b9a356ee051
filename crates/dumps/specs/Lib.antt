pub mod Dump
pub mod Write
