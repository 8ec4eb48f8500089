pub mod EnabledLemmas
pub mod CallLemmas
pub mod PlaceLemmas
pub mod NameLemmas
