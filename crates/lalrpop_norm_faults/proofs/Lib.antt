pub mod FaultLemmas
pub mod FindingLemmas
pub mod FindingExamples
