pub mod Apart
pub mod Rows
pub mod Rising
pub mod Assembled
pub mod SamePlaces
pub mod OneClassing
pub mod Small
pub mod Merged
pub mod Exists
mod StandardFacts
mod Refusals
