pub mod OneSpan
pub mod EnergyLists
mod StandardFacts
mod Refusals
