pub mod OneMark
mod StandardFacts
mod Refusals
