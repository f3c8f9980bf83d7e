-- `Comparing`: the comparison of a name with the bytes from a place on.
mod Comparing
