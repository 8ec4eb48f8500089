pub mod Texts
pub mod Accessors
pub mod Terminals
pub mod NewLifetimes
