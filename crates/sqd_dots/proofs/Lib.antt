pub mod Choices
pub mod TallyLemmas
pub mod LevelLemmas
pub mod ReaderLemmas
pub mod Whole
pub mod OneDrawing
mod StandardFacts
mod Refusals
