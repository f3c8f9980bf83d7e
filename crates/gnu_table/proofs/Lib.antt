-- `Headers`: the header, test by test. `Filters`: what the bloom filter says, test by test.
mod Filters
mod Headers
