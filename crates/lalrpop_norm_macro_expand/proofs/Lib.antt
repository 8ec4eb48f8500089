mod BehindLemmas
mod BoundLemmas
pub mod DistinctLemmas
mod ExitLemmas
mod FreshLemmas
mod GeneratedLemmas
mod ItemsWithoutMacros
mod LastRound
mod LoopLemmas
mod MadeLemmas
mod MakingLemmas
mod RoundLemmas
mod StaysLemmas
mod TracedLemmas
mod WaitingLists
