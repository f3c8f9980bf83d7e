-- `Again` serves the crate's own proofs: what a needed version does, once and again.
mod Again
