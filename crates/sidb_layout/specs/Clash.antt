-- the two ways in which a place may clash with another, and lists without a refusal
use Rattle.std.specs.Prelude.{◌≡◌, ℕ, ◌<◌, List, length}
use Rattle.sidb_layout.specs.declared.site.Site.{Site}
use Rattle.sidb_layout.specs.declared.site.Fix.{Fix}
use Rattle.sidb_layout.specs.declared.lattice.Lattice.{Lattice}
use Rattle.sidb_layout.specs.declared.faults.Clash.{Clash}
use Rattle.sidb_layout.specs.declared.faults.Clash.TheVariants.{Same, Close}
use Rattle.sidb_layout.specs.Site.{place_at, places_of}
use Rattle.sidb_layout.specs.Refusal.{IsTooClose, AreFew}

-- the relation of a clash
abbrev pub Clashes : Clash → Site → Site → Type 0
Clashes Same a b = a ≡ b
Clashes (Close lattice) a b = IsTooClose lattice a b

-- no place before place j is related to it
abbrev pub NoneBefore : (Site → Site → Type 0) → List Site → ℕ → Type 0
NoneBefore R places j = (k : ℕ) → k < j → ¬ R (place_at places k) (place_at places j)

-- no place is related to an earlier one
abbrev pub HasNoPair : (Site → Site → Type 0) → List Site → Type 0
HasNoPair R places = (k m : ℕ) → k < m → m < length places
    → ¬ R (place_at places k) (place_at places m)

-- places and fixed charges that are not refused
pub record AreFinePlaces (v : Lattice) (sites : List Site) (fixes : List Fix) : Type 0 where
  pub few : AreFew sites fixes
  pub distinct : HasNoPair (λ a b. a ≡ b) (places_of sites fixes)
  pub apart : HasNoPair (IsTooClose v) (places_of sites fixes)
