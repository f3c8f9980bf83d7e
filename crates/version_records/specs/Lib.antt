pub mod Outcome
pub mod Records
pub mod Tested
pub mod Walk
