pub mod Places
pub mod Cells
pub mod Overall
pub mod Told
pub mod Dues
pub mod OneAnswer
pub mod SomeAnswer
pub mod Given
mod StandardFacts
mod Refusals
