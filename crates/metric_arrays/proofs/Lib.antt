pub mod Turn
pub mod Answers
pub mod Entries
