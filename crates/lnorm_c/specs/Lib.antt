pub mod Words
pub mod Calls
pub mod Versions
