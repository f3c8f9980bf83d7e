pub mod Length
pub mod Passes
