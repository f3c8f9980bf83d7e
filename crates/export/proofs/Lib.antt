-- `Truth`: a truth that is cast to a number. `Unknown`: what a number of class or order comes to.
mod Long
pub mod Truth
pub mod Unknown
