pub mod Cuts
pub mod Numbers
pub mod RowLemmas
pub mod Readings
mod StandardFacts
mod Refusals
