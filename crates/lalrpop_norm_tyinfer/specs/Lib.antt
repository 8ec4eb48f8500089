pub mod Inferred
pub mod Rounds
