pub mod LineLemmas
mod StandardFacts
mod Refusals
