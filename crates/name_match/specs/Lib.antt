pub mod Reads
pub mod Same
