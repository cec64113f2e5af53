pub mod Behind
pub mod StandardFacts
pub mod Refusals
