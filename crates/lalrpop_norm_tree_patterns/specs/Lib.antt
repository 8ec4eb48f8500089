pub mod Patterns
pub mod MappedPatterns
pub mod PatternTexts
