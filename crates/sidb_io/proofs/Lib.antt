pub mod Given
mod Refusals
pub mod StandardFacts
pub mod Taken
