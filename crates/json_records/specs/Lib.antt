pub mod Order
pub mod Reading
pub mod Fields
pub mod Variants
pub mod Rows
pub mod Readers
