-- Values worked by hand from the lattice constants of H-Si(100)-2x1, in squared hundredths of an ångström,
-- and for each fact a value that has it.
use Rattle.std.proofs.Common.{◌≡◌, ℤ, pos, negsuc, inl, inr, [], ◌∷◌, refl, sym, ap, ◌∙◌, arith, lit≤}
use Rattle.std.specs.Prelude.{All}
use Rattle.std.proofs.lemmas.Int.{ints}
use Rattle.std.proofs.lemmas.List.Elements.{All-nil, All-cons, All-contains}
use Rattle.std.proofs.lemmas.List.Sorted.{IsPermutation-refl}
use Rattle.sidb_layout.specs.declared.site.Site.{Site}
use Rattle.sidb_layout.specs.declared.site.Fix.{Fix}
use Rattle.sidb_layout.specs.declared.lattice.Lattice.{Lattice}
use Rattle.sidb_layout.specs.Site.{IsInRange, IsFixInRange, IsInRowOrder}
use Rattle.sidb_layout.specs.Lattice.{AreVectors, HasVectors, silicon, squared_distance}
use Rattle.sidb_layout.specs.Layout.{IsLayout, arrangement_of}
use Rattle.sidb_layout.specs.Refusal.{IsMadeOf}
use Rattle.sidb_layout.specs.Dropping.{sites_but}
use Rattle.sidb_layout.proofs.Silicon.{roomy}

abbrev pub at : ℤ → ℤ → ℤ → Site
at n m l = record { n = n; m = m; l = l }

-- neighbours along a row, 3.84 Å apart, and the next but one
pub neighbours : squared_distance silicon (at (pos 0) (pos 0) (pos 0)) (at (pos 1) (pos 0) (pos 0)) ≡ 147456
unfolding squared_distance
neighbours = refl

pub next_but_one : squared_distance silicon (at (pos 0) (pos 0) (pos 0)) (at (pos 2) (pos 0) (pos 0)) ≡ 589824
unfolding squared_distance
next_but_one = refl

-- the two atoms of a dimer, 2.25 Å apart, and the second atom to the dimer of the next row, 5.43 Å
pub dimer : squared_distance silicon (at (pos 0) (pos 0) (pos 0)) (at (pos 0) (pos 0) (pos 1)) ≡ 50625
unfolding squared_distance
dimer = refl

pub next_row : squared_distance silicon (at (pos 0) (pos 0) (pos 1)) (at (pos 0) (pos 1) (pos 0)) ≡ 294849
unfolding squared_distance
next_row = refl

-- places on both sides of the origin, one row and two columns apart
pub across : squared_distance silicon (at (negsuc 0) (negsuc 0) (pos 0)) (at (pos 1) (pos 0) (pos 0)) ≡ 1179648
unfolding squared_distance
across = refl

-- a square lattice of 3 Å with both atoms in one position
abbrev pub square_lattice : Lattice
square_lattice = record {
  ax = pos 300;
  ay = pos 0;
  bx = pos 0;
  by = pos 300;
  cx = pos 0;
  cy = pos 0;
  x_steps = lit≤ tt;
  y_steps = lit≤ tt;
  x_offset = lit≤ tt;
  y_offset = lit≤ tt;
}

pub one_position : squared_distance square_lattice (at (pos 0) (pos 0) (pos 0)) (at (pos 0) (pos 0) (pos 1)) ≡ 0
unfolding squared_distance
one_position = refl

pub silicon_vectors : AreVectors (pos 384) (pos 0) (pos 0) (pos 768) (pos 0) (pos 225)
silicon_vectors = record { x_steps = lit≤ tt; y_steps = lit≤ tt; x_offset = lit≤ tt; y_offset = lit≤ tt }

pub silicon_has_them : HasVectors (pos 384) (pos 0) (pos 0) (pos 768) (pos 0) (pos 225) silicon
silicon_has_them = record { column_x = refl; column_y = refl; row_x = refl; row_y = refl; atom_x = refl; atom_y = refl }

-- the last place in range
pub corner : IsInRange (at (negsuc 4999) (pos 5000) (pos 1))
corner = record { column = lit≤ tt; row = lit≤ tt; atom = inr refl }

abbrev pub first : Site
first = at (pos 0) (pos 0) (pos 0)

abbrev pub second : Site
second = at (pos 1) (pos 0) (pos 0)

abbrev pub charge : Fix
charge = record { site = second; charge = negsuc 2 }

first_in_range : IsInRange first
first_in_range = record { column = lit≤ tt; row = lit≤ tt; atom = inl refl }

second_in_range : IsInRange second
second_in_range = record { column = lit≤ tt; row = lit≤ tt; atom = inl refl }

pub charge_in_range : IsFixInRange charge
charge_in_range = record {
  place = second_in_range;
  charge = record { least = omega (arith, ints); greatest = omega (arith, ints); charged = λ e. cc e };
}

both : All IsInRange (first ∷ second ∷ [])
both = All-cons IsInRange first (second ∷ []) first_in_range (All-cons IsInRange second [] second_in_range (All-nil IsInRange))

alone : (s : Site) → IsInRowOrder (s ∷ [])
alone s i j d before within = absurd (omega arith)

-- a site with a fixed charge beside it is a layout
pub with_charge : IsLayout (arrangement_of silicon (first ∷ []) (charge ∷ []))
with_charge = record {
  few_sites = lit≤ tt;
  few_fixes = lit≤ tt;
  sites_in_range = All-cons IsInRange first [] first_in_range (All-nil IsInRange);
  fixes_in_range = All-cons IsFixInRange charge [] charge_in_range (All-nil IsFixInRange);
  sites_in_order = alone first;
  fixes_in_order = alone second;
  no_fix_on_a_site = λ s c d. apart (All-contains (λ t. t ≡ first) (first ∷ []) s (All-cons (λ t. t ≡ first) first [] refl (All-nil (λ t. t ≡ first))) c)
      (All-contains (λ t. t ≡ second) (second ∷ []) s (All-cons (λ t. t ≡ second) second [] refl (All-nil (λ t. t ≡ second))) d);
  apart = λ a b c d ne. roomy a b (All-contains IsInRange (first ∷ second ∷ []) a both c) (All-contains IsInRange (first ∷ second ∷ []) b both d) ne;
}
  where
    apart : {s : Site} → s ≡ first → s ≡ second → ⊥
    apart e f = let n : pos 0 ≡ pos 1 = ap (λ (t : Site). t.n) (sym e ∙ f) in omega (arith, ints, n)

pub made_of_them : IsMadeOf silicon (first ∷ []) (charge ∷ []) (arrangement_of silicon (first ∷ []) (charge ∷ []))
made_of_them = record {
  layout = with_charge;
  on_lattice = refl;
  same_sites = IsPermutation-refl (first ∷ []);
  same_fixes = IsPermutation-refl (charge ∷ []);
}

-- the second of three sites is left out
pub middle_left_out : sites_but (1 ∷ []) (first ∷ second ∷ first ∷ []) ≡ (first ∷ first ∷ [])
middle_left_out = refl
