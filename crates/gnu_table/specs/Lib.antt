pub mod Header
pub mod Layout
pub mod Places
pub mod Table
