mod WordLemmas
mod MapCompositions
mod UnmadeLemmas
mod CapLemmas
mod SharedSymbols
mod SharedLemmas
mod SharedChains
mod OneRuleLemmas
pub mod ShapeTrees
pub mod PassLemmas
pub mod ExpandedParts
pub mod ExpandedSymbols
pub mod ExpandedRounds
pub mod ExpandedScopes
pub mod ExpandedInstances
pub mod ExpandedTokens
pub mod ExpandedPlain
pub mod ExpandedSteps
pub mod TypesWithoutSymbols
pub mod ItemsWithoutFaults
pub mod ExpandedWritten
pub mod TypedPlain
pub mod ExpandedActive
pub mod ExpandedWhole
pub mod GroundedTypes
pub mod ComposedFaithful
pub mod ScopedLemmas
pub mod LevelsResolved
pub mod PlainShape
pub mod StartProductions
pub mod TreesRounds
pub mod TreesLeveled
pub mod TreesWritten
pub mod TreesPublic
pub mod RealizedRules
pub mod RootSteps
pub mod TwoSteps
pub mod PlainTrees
pub mod KnownNonterminals
pub mod TreesFaithful
pub mod TracedOrigins
pub mod TreesMacros
pub mod TreesStarts
pub mod NarrowLevels
pub mod WrittenCalls
pub mod AmbiguousRules
pub mod RootNames
pub mod TracedLemmas
pub mod StartExamples
pub mod RulesLemmas
