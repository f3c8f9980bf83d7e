-- `Accepted` and `Meaning` are for whoever cites this crate: what an accepted table answers, and T3 without a bound on steps.
-- `Counting`: sums over runs of numbers, and the pigeonholes. `Chained`: chains that come to 0. `Ruled`: the rules as facts.
-- `Counted`: T3 by counting is T3. `Readings`: T2 by the search for a name that cannot be read. `Passes`: the
-- answer from the passes. `Standing`, `Walked`: what stands on a chain, and the walk along it, for `Accepted`.
pub mod Accepted
mod Chained
mod Counted
mod Counting
pub mod Meaning
mod Passes
mod Readings
mod Ruled
mod Standing
mod Walked
