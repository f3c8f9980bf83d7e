pub mod Demand3
pub mod HeaderRules
pub mod Rules
