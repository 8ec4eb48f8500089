pub mod Digits
mod Saying
pub mod Turns
pub mod Whole
pub mod Rows
pub mod Named
pub mod Tupled
mod LastItems
