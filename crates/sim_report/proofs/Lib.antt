pub mod RowLemmas
pub mod Numbered
pub mod Whole
mod StandardFacts
mod Refusals
