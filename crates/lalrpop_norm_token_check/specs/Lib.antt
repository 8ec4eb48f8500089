pub mod Checked
pub mod Converted
pub mod Found
pub mod Keys
pub mod Uses
