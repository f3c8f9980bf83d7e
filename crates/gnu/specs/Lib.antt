pub mod Find
pub mod Lookup
pub mod Start
pub mod Walk
