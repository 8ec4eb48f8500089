pub mod ClauseLemmas
pub mod FilledLemmas
mod LiteralLemmas
pub mod LoopLemmas
mod LoweredViews
mod MisfitLemmas
pub mod NeedLemmas
mod NeededLemmas
pub mod NumberLemmas
pub mod NumberedLemmas
pub mod NumberedRounds
pub mod ReadLemmas
pub mod RoundLemmas
mod SameLemmas
mod SharedLevels
pub mod StopLemmas
pub mod TokenLemmas
mod TupleSizes
pub mod ValueLemmas
pub mod VisitLemmas
mod WaitingLemmas
mod WrapperLemmas
mod PairLemmas
mod QueueLemmas
mod WrittenSizes
mod WrittenSymbols
