pub mod HullLemmas
pub mod StandardFacts
pub mod Refusals
