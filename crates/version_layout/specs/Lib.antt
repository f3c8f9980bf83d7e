pub mod Indices
pub mod Layouts
