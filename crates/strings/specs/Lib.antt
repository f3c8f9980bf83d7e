pub mod AfterZero
pub mod Strings
