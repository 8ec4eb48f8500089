pub mod EnabledItems
pub mod SymbolFaults
pub mod AlternativeFaults
pub mod TypeFaults
pub mod GrammarFaults
pub mod MalformedCfgs
pub mod Walks
