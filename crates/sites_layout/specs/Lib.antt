pub mod SitesWords
pub mod SitesLines
pub mod SitesFaults
pub mod SitesClash
pub use Rattle.sqd_scan.specs.declared.fault.SqdFault
