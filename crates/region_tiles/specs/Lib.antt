pub mod Alike
pub mod Sides
pub mod Rectangles
pub mod Tiles
pub mod Refined
pub mod Areas
pub mod Added
