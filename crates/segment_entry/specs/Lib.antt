pub mod Entry
pub mod FileRange
