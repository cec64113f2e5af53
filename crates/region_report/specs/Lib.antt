pub use Rattle.region_tiles.specs.Areas
pub mod RegionText
pub mod RegionJson
