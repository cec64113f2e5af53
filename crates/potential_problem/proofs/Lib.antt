pub mod Places
pub mod Spans
mod StandardFacts
