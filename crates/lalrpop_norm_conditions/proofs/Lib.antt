pub mod FoundLemmas
pub mod ReadingLemmas
