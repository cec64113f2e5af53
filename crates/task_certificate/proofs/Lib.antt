pub mod Named
pub mod Certifying
pub mod Checking
pub mod Checked
pub mod StandardFacts
mod Refusals
