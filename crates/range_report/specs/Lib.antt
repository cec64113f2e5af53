pub mod RangeText
pub use Rattle.level_range_laws.specs.Parts
pub use Rattle.text_rows.specs.Rows
