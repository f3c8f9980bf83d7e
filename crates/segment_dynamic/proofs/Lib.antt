-- `Entries`: which numbers are below the count.
pub mod Entries
