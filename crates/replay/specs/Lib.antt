pub mod Count
pub mod Part
