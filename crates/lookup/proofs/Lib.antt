-- All are for whoever cites this crate. `Picking`: laws of lists of numbers. `Distinct`: what a wanted symbol has. `Named`: the
-- name of a symbol, by its record. `Searching`: the first that passes, as the library's `find` answers it.
pub mod Distinct
pub mod Named
pub mod Picking
pub mod Searching
