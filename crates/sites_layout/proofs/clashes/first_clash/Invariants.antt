use Rattle.std.proofs.Common.{ℕ, ◌<◌}
use Rattle.sites_layout.specs.SitesFaults.{AreRelated}
use Rattle.sites_layout.specs.SitesClash.{ClashRelation}
use Rattle.sites_layout.proofs.clashes.first_clash.Given as goal

abbrev pub invariant-loop-j : goal.invariant-loop-j
invariant-loop-j l =
    (h k : ℕ) → h < k → k < l.j → ¬ AreRelated (ClashRelation l.clash) l.lines h k
