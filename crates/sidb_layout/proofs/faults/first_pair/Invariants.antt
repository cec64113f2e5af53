use Rattle.std.proofs.Common.{ℕ, ◌<◌}
use Rattle.sidb_layout.specs.Site.{place_at, places_of}
use Rattle.sidb_layout.specs.Clash.{Clashes}
use Rattle.sidb_layout.proofs.faults.first_pair.Given as goal

abbrev pub invariant-loop-j : goal.invariant-loop-j
invariant-loop-j l =
    (k m : ℕ) → k < m → m < l.j → ¬ Clashes l.clash (place_at (places_of l.sites l.fixes) k) (place_at (places_of l.sites l.fixes) m)
