mod NumberLemmas
mod ReadLemmas
mod WalkLemmas
mod ItemLemmas
mod GroupLemmas
mod BelowLemmas
mod KindLemmas
mod RepeatLemmas
mod RuleLemmas
pub mod UnleveledLemmas
mod SeveralLemmas
pub mod LevelNameLemmas
mod UnleveledItems
pub mod LevelFaultLemmas
pub mod SettledLemmas
mod MadeNameLemmas
pub mod PrecedenceLemmas
pub mod PrecedenceExamples
pub mod LevelListLemmas
pub mod LevelListShapes
mod LevelListExamples
