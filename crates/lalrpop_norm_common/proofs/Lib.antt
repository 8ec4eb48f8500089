pub mod ListLemmas
pub mod Slots
pub mod FeatureLemmas
pub mod SymbolLemmas
pub mod ExprLemmas
pub mod UsedLemmas
