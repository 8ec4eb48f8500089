pub mod TreeLines
pub mod LineForms
pub mod Lines
pub mod Laws
