pub use Rattle.sidb_layout.specs.Layout
pub use Rattle.sites_layout.specs.SitesFaults
pub use Rattle.sqd_layout.specs.DotsFaults
