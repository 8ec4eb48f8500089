pub mod Words
pub mod Witnesses
pub mod Answers
pub mod Stops
pub mod Refusals
pub mod Runs
