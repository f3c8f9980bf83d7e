-- `Theorems` is for whoever cites this crate: what a lookup finds. The others serve its own proofs. `Lookups`: what a lookup
-- gives, test by test. `Starts`: where a walk starts, as an Option. `Walking`: the walk, turn by turn. `Finds`: a lookup, by what was read of its parts.
mod Finds
mod Lookups
mod Starts
pub mod Theorems
mod Walking
