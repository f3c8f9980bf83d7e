pub mod Answers
pub mod Kinds
pub mod Known
pub mod Lookups
pub mod Parts
