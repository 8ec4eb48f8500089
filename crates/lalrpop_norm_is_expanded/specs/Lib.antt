pub mod Plain
pub mod Tokens
pub mod Types
pub mod Whole
