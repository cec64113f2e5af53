mod Refusals
mod StandardFacts
pub mod Depths
pub mod Fewer
pub mod LimitLemmas
pub mod Written
