pub mod Generated
pub mod Fine
pub mod Layouts
pub mod Dues
pub mod OneProblem
pub mod OneAnswer
pub mod SomeAnswer
pub mod Told
pub mod StandardFacts
mod Refusals
