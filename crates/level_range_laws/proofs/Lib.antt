pub mod LevelFacts
pub mod Between
pub mod Agreement
pub mod Openings
pub mod Outcomes
pub mod OneAnswer
pub mod Counting
pub mod Building
pub mod InOne
pub mod OneList
pub mod Decided
pub mod AtLevels
pub mod Exist
pub mod StandardFacts
mod Refusals
