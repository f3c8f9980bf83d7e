-- `Names`: the name of a symbol. `Size`: the records of either class.
pub mod Names
pub mod Size
