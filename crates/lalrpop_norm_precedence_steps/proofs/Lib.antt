mod FirstLemmas
pub mod ReadingLemmas
mod LowestLemmas
