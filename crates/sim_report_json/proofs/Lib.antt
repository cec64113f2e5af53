pub mod Items
pub mod NoFloats
mod StandardFacts
mod Refusals
