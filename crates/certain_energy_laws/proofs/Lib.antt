pub mod Linear
pub mod Extremes
pub mod Decisions
pub mod Lists
pub mod Existence
