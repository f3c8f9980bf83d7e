-- `Falsity`: what cannot be shows anything. `First`: a loop that looks for the first element that a test accepts.
-- `Numbers`: the numbers of the table.
-- `Word`: a word in two parts, and past the end, over every width and both orders.
pub mod Falsity
pub mod First
mod Long
mod Numbers
pub mod Word
