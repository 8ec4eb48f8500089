pub mod Rules
pub mod Terminals
pub mod Used
pub mod Whole
