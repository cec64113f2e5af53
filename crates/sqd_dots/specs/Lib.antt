pub mod Dots
pub mod Drawings
pub mod Levels
pub mod States
