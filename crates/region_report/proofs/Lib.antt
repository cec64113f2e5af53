pub mod Behind
pub mod NoFloats
mod StandardFacts
mod Refusals
