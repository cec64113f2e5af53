-- Each definition refuses a wrong value.
use Rattle.std.proofs.Common.{◌≡◌, pos, negsuc, ◌⊎◌, inl, inr, [], ◌∷◌, refl, ap, arith, lit<}
use Rattle.std.proofs.lemmas.Int.{ints}
use Rattle.sidb_layout.specs.declared.site.Site.{Site}
use Rattle.sidb_layout.specs.declared.lattice.Lattice.{Lattice}
use Rattle.sidb_layout.specs.declared.fault.LayoutFault.TheVariants.{TooMany, TooManyFixes, Duplicate}
use Rattle.sidb_layout.specs.Site.{IsInRange, IsFixInRange, IsInRowOrder, IsRowBefore}
use Rattle.sidb_layout.specs.Lattice.{AreVectors, silicon}
use Rattle.sidb_layout.specs.Layout.{IsLayout, arrangement_of}
use Rattle.sidb_layout.specs.Refusal.{IsLayoutRefusal, IsMadeOf}
use Rattle.sidb_layout.proofs.StandardFacts.{at, first, second, charge, square_lattice, one_position}

-- a column, a row and an atom out of range
pub refuses_column : IsInRange (at (pos 5001) (pos 0) (pos 0)) → ⊥
refuses_column h = omega (arith, h.column)

pub refuses_row : IsInRange (at (pos 0) (negsuc 5000) (pos 0)) → ⊥
refuses_row h = omega (arith, h.row)

pub refuses_atom : IsInRange (at (pos 0) (pos 0) (pos 2)) → ⊥
refuses_atom h = by h.atom
  where
    by : (pos 2 ≡ pos 0) ⊎ (pos 2 ≡ pos 1) → ⊥
    by (inl e) = omega (arith, ints, e)
    by (inr e) = omega (arith, ints, e)

-- a charge of 0, and one of 4
pub refuses_no_charge : IsFixInRange (record { site = first; charge = pos 0 }) → ⊥
refuses_no_charge h = h.charge.charged refl

pub refuses_large_charge : IsFixInRange (record { site = first; charge = pos 4 }) → ⊥
refuses_large_charge h = omega (arith, ints, h.charge.greatest)

-- steps of 8.01 Å, and an offset of 4.01 Å
pub refuses_steps : AreVectors (pos 400) (pos 0) (negsuc 400) (pos 0) (pos 0) (pos 0) → ⊥
refuses_steps h = omega (arith, h.x_steps)

pub refuses_offset : AreVectors (pos 0) (pos 0) (pos 0) (pos 0) (pos 0) (negsuc 400) → ⊥
refuses_offset h = omega (arith, h.y_offset)

-- a later column before an earlier one, and a place twice
pub refuses_order : IsInRowOrder (second ∷ first ∷ []) → ⊥
refuses_order h = by (h 0 1 first (lit< tt) (lit< tt))
  where
    by : IsRowBefore second first → ⊥
    by (inl m) = omega (arith, ints, m)
    by (inr (m, inl l)) = omega (arith, ints, l)
    by (inr (m, inr (l, n))) = omega (arith, ints, n)

pub refuses_twice : IsInRowOrder (first ∷ first ∷ []) → ⊥
refuses_twice h = by (h 0 1 first (lit< tt) (lit< tt))
  where
    by : IsRowBefore first first → ⊥
    by (inl m) = omega (arith, ints, m)
    by (inr (m, inl l)) = omega (arith, ints, l)
    by (inr (m, inr (l, n))) = omega (arith, ints, n)

-- a fixed charge on a site, and two atoms in one position
pub refuses_fix_on_a_site : IsLayout (arrangement_of silicon (second ∷ []) (charge ∷ [])) → ⊥
refuses_fix_on_a_site h = h.no_fix_on_a_site second (0, lit< tt, refl) (0, lit< tt, refl)

pub refuses_one_position : IsLayout (arrangement_of square_lattice (first ∷ at (pos 0) (pos 0) (pos 1) ∷ []) []) → ⊥
refuses_one_position h =
    let far = h.apart first (at (pos 0) (pos 0) (pos 1)) (0, lit< tt, refl) (1, lit< tt, refl) (λ same. let l : pos 0 ≡ pos 1 = ap (λ (s : Site). s.l) same in omega (arith, ints, l)) in
    omega (arith, far, one_position)

-- a layout on another lattice
pub refuses_lattice : IsMadeOf silicon [] [] (arrangement_of square_lattice [] []) → ⊥
refuses_lattice h = let x : pos 300 ≡ pos 384 = ap (λ (v : Lattice). v.ax) h.on_lattice in omega (arith, ints, x)

-- a duplicate that is none, and a close pair on the default lattice
pub refuses_no_duplicate : IsLayoutRefusal silicon (first ∷ second ∷ []) [] (Duplicate 0 1) → ⊥
refuses_no_duplicate h =
    let n : pos 0 ≡ pos 1 = ap (λ (s : Site). s.n) h.1.earliest.related in omega (arith, ints, n)

pub refuses_few_as_many : IsLayoutRefusal silicon (first ∷ []) [] TooMany → ⊥
refuses_few_as_many h = omega (arith, h.1)

pub refuses_few_fixes_as_many : IsLayoutRefusal silicon [] (charge ∷ []) TooManyFixes → ⊥
refuses_few_fixes_as_many h = omega (arith, h.2)
