pub mod Functions
pub mod Pairs
pub mod Logic
pub mod Seen
pub mod Grids
pub mod SeenGrid
pub mod GridTexts
