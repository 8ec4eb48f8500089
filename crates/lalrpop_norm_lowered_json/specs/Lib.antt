pub mod LoweredForms
pub mod WholeForms
pub mod Laws
