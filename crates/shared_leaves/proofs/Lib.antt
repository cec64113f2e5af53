mod Refusals
pub mod StandardFacts
pub mod Parts
pub mod Found
