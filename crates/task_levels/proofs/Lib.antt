pub mod EntryLists
pub mod OneAnswer
pub mod SomeAnswer
pub mod Told
pub mod OneRange
pub mod SomeRange
pub mod ToldRange
pub mod RangeDue
pub mod StandardFacts
mod Refusals
mod RangeFacts
