pub mod After
pub mod Reader
