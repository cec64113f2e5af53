pub mod OneAnswer
pub mod StandardFacts
mod Refusals
