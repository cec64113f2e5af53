pub mod StandardFacts
pub mod Squares
pub mod Numbers
pub mod Factors
pub mod LowLemmas
pub mod Orders
pub mod Powers
pub mod HighLemmas
