pub use Rattle.sidb_layout.specs.Site
pub use Rattle.sidb_layout.specs.Layout
pub use Rattle.sidb_layout.specs.Refusal
