-- what is no dot's place, no drawn layout and no fault
use Rattle.std.proofs.Common.{◌≢◌, ℕ, pos, List, [], ◌∷◌, arith}
use Rattle.std.proofs.lemmas.List.Sorted.{length_permutation}
use Rattle.sidb_layout.specs.declared.site.Site.{Site}
use Rattle.sidb_layout.specs.declared.site.Fix.{Fix}
use Rattle.sidb_layout.specs.declared.lattice.Lattice.{Lattice as CrystalLattice}
use Rattle.sidb_layout.specs.Lattice.{silicon}
use Rattle.sidb_layout.specs.Layout.{Arrangement, arrangement_of}
use Rattle.sqd_scan.specs.declared.fault.SqdFault.TheVariants.{TooClose}
use Rattle.sqd_dots.specs.declared.drawing.Dot.{Dot}
use Rattle.sqd_layout.specs.DotsFaults.{BeginsAt, IsDotsFault, IsSqdText}

-- no dots' places and faults
abbrev one_dot : List Dot
one_dot = record { at = 7; site = record { n = pos 0; m = pos 0; l = pos 0 } } ∷ []

other_byte : BeginsAt one_dot 0 8 → ⊥
other_byte h = cc h

no_second_dot : BeginsAt one_dot 1 7 → ⊥
no_second_dot h = h

never_too_close : IsDotsFault one_dot (TooClose 7 7) → ⊥
never_too_close h = h

-- no drawn layouts: one with a fixed charge, one on another lattice
a_charge_drawn : (text : List ℕ) (lattice : CrystalLattice) (sites : List Site) (fix : Fix) (skipped : ℕ)
    → IsSqdText text (arrangement_of lattice sites (fix ∷ [])) skipped → ⊥
a_charge_drawn text lattice sites fix skipped h = omega (arith, length_permutation [] (fix ∷ []) h.made.same_fixes)

another_lattice : (text : List ℕ) (p : Arrangement) (skipped : ℕ) → p.lattice ≢ silicon → IsSqdText text p skipped → ⊥
another_lattice text p skipped other h = other h.made.on_lattice
