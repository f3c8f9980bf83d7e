pub mod Find
pub mod Layout
pub mod Table
