-- `Turns`: the pass over the symbols. `Straying`: whether a bucket is stray, test by test.
mod Straying
mod Turns
