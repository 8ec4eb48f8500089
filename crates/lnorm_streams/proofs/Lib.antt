pub mod FrontLemmas
pub mod LineLemmas
pub mod MessageLemmas
pub mod OneRead
pub mod OneWrite
