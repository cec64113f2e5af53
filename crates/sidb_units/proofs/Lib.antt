pub mod DigitLemmas
pub mod NumeralLemmas
pub mod ReadingLemmas
mod Refusals
pub mod RoundTrip
pub mod SomeReading
pub mod StandardFacts
pub mod ValueLemmas
