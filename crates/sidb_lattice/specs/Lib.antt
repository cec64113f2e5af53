pub use Rattle.sidb_layout.specs.Site
pub use Rattle.sidb_layout.specs.Lattice
pub use Rattle.sidb_layout.specs.Layout
pub use Rattle.sidb_layout.specs.Refusal
pub use Rattle.sidb_layout.specs.Dropping
pub mod Classes
pub mod Classed
pub mod Measured
