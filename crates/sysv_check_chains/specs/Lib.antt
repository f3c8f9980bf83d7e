pub mod Hash
pub mod Lent
pub mod Pass
