pub mod Seeds
pub mod Numbers
