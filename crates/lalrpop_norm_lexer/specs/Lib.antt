pub mod Answers
pub mod CheckOnly
pub mod Constructing
pub mod Entries
