pub mod EnergyGaps
pub mod Sided
pub mod Raised
pub mod Counts
pub mod Branches
pub mod Searched
pub mod RaiseLemmas
mod StandardFacts
mod Refusals
pub mod Bounded
