pub mod OneParams
pub mod StandardFacts
mod Refusals
