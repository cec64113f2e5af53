pub mod ListLemmas
pub mod TileLemmas
pub mod ManyTiles
pub mod SideLemmas
pub mod RowLemmas
pub mod RectangleLemmas
pub mod GridLemmas
pub mod AreaLemmas
pub mod RefinedLemmas
pub mod CodeLemmas
pub mod StandardFacts
mod Refusals
