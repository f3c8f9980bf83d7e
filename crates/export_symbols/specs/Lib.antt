pub mod Facts
pub mod Symbols
