pub mod ByteFacts
pub mod Spans
pub mod Values
pub mod Names
pub mod Attributes
pub mod StandardFacts
pub mod Refusals
