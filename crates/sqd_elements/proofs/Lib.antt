pub mod Digits
pub mod KeptLemmas
mod StandardFacts
mod Refusals
