pub mod Blocks
pub mod Lending
pub mod Owners
pub mod Steps
pub mod Turn
