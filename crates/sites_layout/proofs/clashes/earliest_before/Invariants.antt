use Rattle.std.proofs.Common.{ℕ, ◌<◌}
use Rattle.std.specs.Prelude.{IsSomeAnd}
use Rattle.sites_layout.specs.SitesLines.{place_on}
use Rattle.sites_layout.specs.SitesClash.{ClashRelation}
use Rattle.sites_layout.proofs.clashes.earliest_before.Given as goal

abbrev pub invariant-loop-i : goal.invariant-loop-i
invariant-loop-i l =
    (h : ℕ) → h < l.i → ¬ IsSomeAnd (place_on l.lines h) (λ a. ClashRelation l.clash a l.place)
