-- `Demand3`: an accepted table keeps what specs/Demand3 says. `Kept`, the rules as facts, `Members`, the symbols of a bucket,
-- and `Finds`, the lookup in an accepted table, lead there.
-- `Powers`: whether a number is a power of two. `Header`: the rules of the header.
pub mod Demand3
mod Finds
mod Header
pub mod Kept
pub mod Members
mod Powers
