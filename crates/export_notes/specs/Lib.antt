pub mod Notes
pub mod Properties
