pub mod RuleLemmas
pub mod TerminalLemmas
pub mod UsedLemmas
pub mod WholeLemmas
