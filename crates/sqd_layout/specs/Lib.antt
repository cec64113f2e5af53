pub mod DotsFaults
pub use Rattle.sqd_scan.specs.declared.fault.SqdFault
