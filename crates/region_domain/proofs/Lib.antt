pub mod FirstReason
pub mod Leaving
pub mod Telling
pub mod OneTile
pub mod SomeTile
pub mod Gathering
pub mod Found
mod StandardFacts
mod Refusals
