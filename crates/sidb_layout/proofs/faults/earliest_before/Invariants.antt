use Rattle.std.proofs.Common.{ℕ, ◌<◌}
use Rattle.sidb_layout.specs.Site.{place_at, places_of}
use Rattle.sidb_layout.specs.Clash.{Clashes}
use Rattle.sidb_layout.proofs.faults.earliest_before.Given as goal

abbrev pub invariant-loop-i : goal.invariant-loop-i
invariant-loop-i l =
    (k : ℕ) → k < l.i → ¬ Clashes l.clash (place_at (places_of l.sites l.fixes) k) (place_at (places_of l.sites l.fixes) l.j)
