pub mod Data
pub mod Dynamic
pub mod Parts
