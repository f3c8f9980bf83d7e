-- `Filtered` is for whoever cites this crate: the bloom filter and the bits of a symbol.
pub mod Filtered
