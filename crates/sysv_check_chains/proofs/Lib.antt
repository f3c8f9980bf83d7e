-- `Following`: the loops along a chain and along the chains. `Readings`: the names that are hashed.
mod Following
mod Readings
