pub mod Contents
pub mod FineLines
pub mod WholeText
pub mod ClearLines
pub mod OneReading
pub mod StandardFacts
mod Refusals
