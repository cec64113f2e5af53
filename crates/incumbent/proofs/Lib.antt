pub mod Bounded
pub mod Lists
pub mod StandardFacts
mod Refusals
