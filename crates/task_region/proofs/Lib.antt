pub mod Dues
pub mod OneAnswer
pub mod SomeAnswer
pub mod Told
mod StandardFacts
mod Refusals
