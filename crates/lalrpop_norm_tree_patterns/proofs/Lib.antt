pub mod PatternLemmas
pub mod PatternSeen
pub mod PatternViews
pub mod PatternWalks
pub mod MapLaws
pub mod PatternTextLemmas
pub mod PatternSizes
