mod Refusals
mod StandardFacts
pub mod ClosedSites
pub mod Flagged
pub mod Opening
pub mod Ordered
pub mod Splits
