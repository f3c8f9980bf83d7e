-- `Hashing`: the hash of a string from a place on, and of a symbol's name.
mod Hashing
