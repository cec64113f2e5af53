pub mod Positions
pub mod Firsts
pub mod OneRefusal
pub mod RowOrder
pub mod Permuted
pub mod Made
pub mod Silicon
pub mod Kept
pub mod OneLayout
pub mod Stays
mod StandardFacts
mod Refusals
