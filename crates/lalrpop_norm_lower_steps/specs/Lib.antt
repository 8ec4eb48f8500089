pub mod Algorithm
pub mod Clauses
pub mod Code
pub mod Counts
pub mod Filled
pub mod Slots
pub mod StartSymbols
pub mod Terminals
