pub mod EmptyLemmas
pub mod EnabledLemmas
