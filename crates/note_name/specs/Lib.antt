pub mod LentPart
pub mod Trim
