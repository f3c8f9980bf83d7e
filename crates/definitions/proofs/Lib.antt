-- `Counting`: the numbers of a run that pass a test, as the library counts them.
mod Counting
