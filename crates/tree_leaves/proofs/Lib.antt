mod Refusals
pub mod StandardFacts
pub mod Counts
pub mod Thresholds
pub mod Lists
pub mod Branches
pub mod Found
