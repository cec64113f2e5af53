pub mod Chains
mod StandardFacts
mod Refusals
