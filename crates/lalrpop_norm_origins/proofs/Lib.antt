pub mod KeptLists
pub mod LevelLists
pub mod PairedLists
pub mod ShapeLemmas
pub mod WrittenLists
pub mod MacroLists
pub mod MadeLists
mod PlaceExamples
mod MadeExamples
