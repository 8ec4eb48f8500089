pub mod ArgumentLemmas
mod ConditionLemmas
mod GeneratedLemmas
mod InstanceLemmas
pub mod MacroLemmas
pub mod NameLemmas
mod NoMacros
mod SourceLemmas
pub mod StayLemmas
mod UnboundLemmas
mod UnchangedLemmas
