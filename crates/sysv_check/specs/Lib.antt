pub mod Accepted
pub mod Check
pub mod Count
pub mod Meaning
pub mod Rules
