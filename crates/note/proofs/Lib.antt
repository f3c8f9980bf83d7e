-- `Aligned`: the aligned end of a part. `Steps`: what a step finds by its first tests. `Walking`: stepping gives the list of notes.
pub mod Aligned
mod Steps
pub mod Walking
