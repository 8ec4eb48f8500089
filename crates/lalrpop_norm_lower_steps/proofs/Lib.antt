pub mod AttributeLemmas
pub mod CodeLemmas
pub mod SlotLemmas
pub mod SpanLemmas
