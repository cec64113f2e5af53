pub mod Keeping
pub mod Listing
pub mod SameEntries
pub mod Runs
mod StandardFacts
mod Refusals
