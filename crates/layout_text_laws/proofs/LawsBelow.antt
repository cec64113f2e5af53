-- the laws of layouts and of lines that the proof stands on
use Rattle.std.proofs.Common.{◌≡◌, List}
use Rattle.sidb_layout.specs.declared.site.Site.{Site}
use Rattle.sidb_layout.specs.declared.site.Fix.{Fix}
use Rattle.sidb_layout.specs.declared.lattice.Lattice.{Lattice}
use Rattle.sidb_layout.specs.Site.{IsInRange, IsFixInRange}
use Rattle.sidb_layout.specs.Layout.{Arrangement}
use Rattle.sidb_layout.specs.Refusal.{IsMadeOf}
use Rattle.sites_layout.specs.declared.line.SitesLine.{SitesLine}
use Rattle.sites_layout.specs.SitesLines.{sites_in_lines, fixes_of}
use Rattle.sites_layout.specs.SitesFaults.{IsClear}
use Rattle.layout_text_laws.proofs.Decided.{Decided}

-- what is decided, and that lines without a fault make a layout
pub record AreLaws : Type 0 where
  pub site_decided : (s : Site) → Decided (IsInRange s)
  pub fix_decided : (f : Fix) → Decided (IsFixInRange f)
  pub same_decided : (a b : Site) → Decided (a ≡ b)
  pub layout_of_clear : (v : Lattice) (ls : List SitesLine) → IsClear v ls → (p : Arrangement) × IsMadeOf v (sites_in_lines ls) (fixes_of ls) p
