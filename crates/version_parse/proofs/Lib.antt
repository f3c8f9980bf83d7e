-- `Last` is for whoever cites this crate: the store by index. The others serve its own proofs. `Puts`: numbers stored in a
-- list. `Again`: what a record stores, once more. `Rooms`: the highest index leaves room for all. `Parses`: the cases of
-- parsing.
mod Again
pub mod Last
mod Parses
mod Puts
mod Rooms
