pub mod Hashes
pub mod StringTable
pub mod Words
