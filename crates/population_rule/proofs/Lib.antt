pub mod Verdicts
pub mod StandardFacts
mod Refusals
