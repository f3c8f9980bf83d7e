pub mod Entries
pub mod EntryAnswers
