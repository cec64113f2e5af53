pub mod OwnMarkLemmas
pub mod StandardFacts
mod Refusals
