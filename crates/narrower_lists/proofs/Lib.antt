pub mod PossibleLemmas
pub mod TakingLemmas
pub mod StandardFacts
mod Refusals
