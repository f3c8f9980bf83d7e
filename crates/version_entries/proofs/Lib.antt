-- `Entered` is for whoever stores an entry, too: what a record stores, as an answer.
pub mod Entered
