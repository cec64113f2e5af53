pub mod Behind
pub mod Overall
pub mod NoFloats
pub mod Certain
mod StandardFacts
mod Refusals
