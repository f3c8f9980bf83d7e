-- `Longest`: what the trimmed name is. `Trimming`: the length without the zeros at the end, by the last byte that is none.
pub mod Longest
mod Trimming
