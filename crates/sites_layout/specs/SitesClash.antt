-- the two ways in which the places of two lines may clash
use Rattle.std.specs.Prelude.{◌≡◌, ℕ, ◌<◌, List}
use Rattle.sidb_layout.specs.declared.site.Site.{Site}
use Rattle.sidb_layout.specs.Refusal.{IsTooClose}
use Rattle.sites_layout.specs.declared.line.SitesLine.{SitesLine}
use Rattle.sites_layout.specs.declared.clashes.LineClash.{LineClash}
use Rattle.sites_layout.specs.declared.clashes.LineClash.TheVariants.{Same, Close}
use Rattle.sites_layout.specs.SitesFaults.{AreRelated}

-- the relation of a clash
abbrev pub ClashRelation : LineClash → Site → Site → Type 0
ClashRelation Same a b = a ≡ b
ClashRelation (Close lattice) a b = IsTooClose lattice a b

-- the place on no line before line j clashes with that on line j
abbrev pub NoLineBefore : LineClash → List SitesLine → ℕ → Type 0
NoLineBefore clash ls j = (h : ℕ) → h < j → ¬ AreRelated (ClashRelation clash) ls h j
