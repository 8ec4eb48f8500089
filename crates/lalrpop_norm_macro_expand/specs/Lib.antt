pub mod Counts
pub mod Expansion
pub mod Kept
pub mod Laws
pub mod Made
pub mod Making
pub mod Stays
pub mod TracedRules
