pub mod Lent
pub mod Matches
pub mod Pick
pub mod Search
pub mod Wanted
