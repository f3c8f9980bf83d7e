-- `Decides` is for whoever cites this crate: what a match decides. The others serve its own proofs. `Compared`: a part
-- compared with a name. `Entered`: a version behind an index.
mod Compared
mod Entered
pub mod Decides
