pub mod OneInput
pub mod Named
pub mod SomeInput
pub mod Told
mod StandardFacts
mod Refusals
