pub mod PlainLemmas
pub mod TokenLemmas
pub mod TypeLemmas
pub mod WholeLemmas
