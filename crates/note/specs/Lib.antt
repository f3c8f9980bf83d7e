pub mod Notes
pub mod Walk
