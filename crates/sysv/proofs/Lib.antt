-- `Theorems` is for whoever cites this crate: what a lookup finds. `Headers`: the lookup from a table's header. `Walking`: the
-- walk along a chain, number by number.
mod Headers
pub mod Theorems
mod Walking
