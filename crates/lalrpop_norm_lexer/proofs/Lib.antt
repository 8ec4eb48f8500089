pub mod CheckedLemmas
pub mod ConstructLemmas
pub mod EntryLemmas
