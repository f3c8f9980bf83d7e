-- `Records`: which numbers are below the count.
pub mod Records
