-- what is no line, no sites text and no fault
use Rattle.std.proofs.Common.{◌≡◌, refl, ℕ, ℤ, pos, List, [], ◌∷◌, ◌++◌, ◌⊎◌, inl, inr, None, Some, arith}
use Rattle.std.specs.Prelude.{codes}
use Rattle.std.proofs.lemmas.List.Elements.{All-head}
use Rattle.sidb_layout.specs.declared.site.Site.{Site}
use Rattle.sidb_layout.specs.declared.lattice.Lattice.{Lattice as CrystalLattice}
use Rattle.sidb_layout.specs.Lattice.{silicon}
use Rattle.sidb_layout.specs.Layout.{Arrangement}
use Rattle.sites_layout.specs.declared.line.Vectors.{Vectors}
use Rattle.sites_layout.specs.declared.line.SitesLine.{SitesLine}
use Rattle.sites_layout.specs.declared.line.SitesLine.TheVariants.{Empty, Place, Charge, Lattice}
use Rattle.sqd_scan.specs.declared.fault.SqdFault.TheVariants.{BadMark, Memory, BadLine}
use Rattle.sites_layout.specs.SitesLines.{line_in}
use Rattle.sites_layout.specs.SitesFaults.{AreFineSitesLines, IsLineInRange, IsLatticeOf, IsClear, IsFirstClash, IsSitesText, IsSitesFault}
use Rattle.sites_layout.proofs.FineLines.{bad_none}

-- no lines
two_returns : line_in (codes "0 0 0" ++ 13 ∷ 13 ∷ []) ≡ None
two_returns = refl

no_charge : line_in (codes "fix 0 0 0") ≡ None
no_charge = refl

wrong_name : line_in (codes "fax 0 0 0 1") ≡ None
wrong_name = refl

five_numbers : line_in (codes "lattice 1 2 3 4 5") ≡ None
five_numbers = refl

comment_behind : line_in (codes "0 0 0 #") ≡ None
comment_behind = refl

-- no sites text
not_fine : (p : Arrangement) → IsSitesText (codes "0 0") p → ⊥
not_fine p h = bad_none [] None refl h.fine

two_lattices : (v w : Vectors) → AreFineSitesLines (Some (Lattice v) ∷ Some (Lattice w) ∷ []) → ⊥
two_lattices v w h = omega (arith, h.one_lattice)

too_far : IsLineInRange (Place (record { n = pos 5001; m = pos 0; l = pos 0 })) → ⊥
too_far h = omega (arith, h.column)

other_lattice : (v : CrystalLattice) → (v ≡ silicon → ⊥) → IsLatticeOf (Empty ∷ []) v → ⊥
other_lattice v ne h = ne h

-- no clash of a line with itself
with_itself : (R : Site → Site → Type 0) (ls : List SitesLine) (i : ℕ) → IsFirstClash R ls i i → ⊥
with_itself R ls i f = omega (arith, f.earliest.before)

-- no faults
no_line_zero : (text : List ℕ) → IsSitesFault text (BadLine 0) → ⊥
no_line_zero text (i, e, bad) = omega (arith, e)

no_mark : (text : List ℕ) (at : ℕ) → IsSitesFault text (BadMark at) → ⊥
no_mark text at h = h.1

no_memory : (text : List ℕ) → IsSitesFault text Memory → ⊥
no_memory text h = h.1

-- no clear lines: a place twice, a fixed charge on a site, and a line out of range
place_twice : (v : CrystalLattice) (a : Site) → IsClear v (Place a ∷ Empty ∷ Place a ∷ []) → ⊥
place_twice v a h = h.distinct 0 2 (omega arith) (omega arith) refl

charge_on_a_site : (v : CrystalLattice) (a : Site) (q : ℤ) → IsClear v (Place a ∷ Charge (record { site = a; charge = q }) ∷ []) → ⊥
charge_on_a_site v a q h = h.distinct 0 1 (omega arith) (omega arith) refl

out_of_range : (v : CrystalLattice) → IsClear v (Place (record { n = pos 0; m = pos 0; l = pos 2 }) ∷ []) → ⊥
out_of_range v h =
    let s : Site = record { n = pos 0; m = pos 0; l = pos 2 } in
    no_third_atom (All-head IsLineInRange (Place s) [] h.few.in_range).atom
  where
    no_third_atom : (pos 2 ≡ pos 0) ⊎ (pos 2 ≡ pos 1) → ⊥
    no_third_atom (inl e) = cc e
    no_third_atom (inr e) = cc e
