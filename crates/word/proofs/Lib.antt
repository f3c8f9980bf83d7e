-- `Joined`: the word that the library makes of bytes. `Made`: bytes that a closure gave.
mod Joined
mod Made
