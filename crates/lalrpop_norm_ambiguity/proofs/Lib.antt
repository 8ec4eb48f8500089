pub mod Differing
pub mod Paths
pub mod Exactly
pub mod Found
pub mod Steps
pub mod Answering
