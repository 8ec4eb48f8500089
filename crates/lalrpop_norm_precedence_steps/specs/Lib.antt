pub mod Sides
pub mod Attributes
pub mod LevelFaults
pub mod StatedLevels
pub mod Substitutions
pub mod Steps
pub mod OtherItems
pub mod Laws
