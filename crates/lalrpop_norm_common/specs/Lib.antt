pub mod Braces
pub mod Sessions
pub mod ExprSymbols
pub mod Values
pub mod Uses
