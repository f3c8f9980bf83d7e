pub mod Lent
pub mod Names
