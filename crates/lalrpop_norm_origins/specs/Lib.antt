pub mod Origins
pub mod Shapes
pub mod EnabledOrigins
pub mod LeveledOrigins
pub mod MadeOrigins
pub mod Laws
