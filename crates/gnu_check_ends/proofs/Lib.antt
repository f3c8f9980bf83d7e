-- `Chaining`: the pass for the longest chain, turn by turn.
mod Chaining
