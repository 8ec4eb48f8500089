pub mod Shared
pub mod Table
pub mod Actions
pub mod Grammars
pub mod Depths
pub mod Weights
