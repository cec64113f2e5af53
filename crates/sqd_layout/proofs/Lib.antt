pub mod OneDrawnLayout
mod StandardFacts
mod Refusals
