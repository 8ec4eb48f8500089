pub mod NameFaults
pub mod NameTables
pub mod NewNames
