mod Refusals
mod StandardFacts
pub mod Comparing
pub mod Numerals
pub mod Readings
pub mod Sequences
