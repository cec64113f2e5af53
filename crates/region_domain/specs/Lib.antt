pub mod Patterns
pub mod Tiles
pub mod Promises
pub mod Region
pub mod SeenTiled
