-- different places of the default lattice are at least 2.25 Å apart
use Rattle.std.proofs.Common.{◌≡◌, ◌≢◌, ℕ, ◌*◌, ◌<◌, ◌≤◌, ℤ, pos, ◌<ℤ◌, ◌⊎◌, inl, inr, List, length, arith, refl, Ordering}
use Rattle.std.specs.declared.cmp.Ordering.TheVariants.{Less, Equal, Greater}
use Rattle.std.specs.Ordering.{int_cmp}
use Rattle.std.specs.Prelude.{All}
use Rattle.std.proofs.lemmas.Cmp.{int_ranked}
use Rattle.std.proofs.lemmas.Int.{ints}
use Rattle.std.proofs.lemmas.List.Elements.{All-append, All-map, All-get_or}
use Rattle.std.proofs.Math.Nat.{mul-le-mul_right}
use Rattle.sidb_layout.specs.declared.site.Site.{Site}
use Rattle.sidb_layout.specs.declared.site.Fix.{Fix}
use Rattle.sidb_layout.specs.declared.fault.LayoutFault.TheVariants.{TooClose}
use Rattle.sidb_layout.specs.Site.{IsInRange, places_of, places_of_fixes, origin}
use Rattle.sidb_layout.specs.Lattice.{silicon, squared_distance, distance_along, x_of, y_of}
use Rattle.sidb_layout.specs.Refusal.{IsLayoutRefusal, ArePlacesInRange}
use Rattle.sidb_layout.proofs.RowOrder.{same_site}
use Rattle.sidb_layout.proofs.Made.{squared_distance-turned}

square_at_least : (gap : ℕ) → 225 ≤ gap → 50625 ≤ gap * gap
square_at_least gap h = omega (arith, mul-le-mul_right gap h, h)

-- a step along a row, and one from row to row, is long enough
columns_apart : (a b : Site) → a.n <ℤ b.n → 225 ≤ distance_along (x_of silicon a) (x_of silicon b)
columns_apart a b h = omega (arith, ints)

rows_apart : (a b : Site) → IsInRange a → IsInRange b → a.m <ℤ b.m → 225 ≤ distance_along (y_of silicon a) (y_of silicon b)
rows_apart a b ha hb h = by ha.atom hb.atom
  where
    by : (a.l ≡ pos 0) ⊎ (a.l ≡ pos 1) → (b.l ≡ pos 0) ⊎ (b.l ≡ pos 1) → 225 ≤ distance_along (y_of silicon a) (y_of silicon b)
    by (inl p) (inl q) = omega (arith, ints, p, q)
    by (inl p) (inr q) = omega (arith, ints, p, q)
    by (inr p) (inl q) = omega (arith, ints, p, q)
    by (inr p) (inr q) = omega (arith, ints, p, q)

atoms_apart : (a b : Site) → IsInRange a → IsInRange b → a.m ≡ b.m → a.l ≢ b.l → 225 ≤ distance_along (y_of silicon a) (y_of silicon b)
atoms_apart a b ha hb m ne = by ha.atom hb.atom
  where
    by : (a.l ≡ pos 0) ⊎ (a.l ≡ pos 1) → (b.l ≡ pos 0) ⊎ (b.l ≡ pos 1) → 225 ≤ distance_along (y_of silicon a) (y_of silicon b)
    by (inl p) (inl q) = absurd (ne (rw (p, q) refl))
    by (inl p) (inr q) = omega (arith, ints, p, q, m)
    by (inr p) (inl q) = omega (arith, ints, p, q, m)
    by (inr p) (inr q) = absurd (ne (rw (p, q) refl))

by_columns : (a b : Site) → a.n <ℤ b.n → 50625 ≤ squared_distance silicon a b
unfolding squared_distance
by_columns a b h = omega (arith, square_at_least _ (columns_apart a b h))

by_lines : (a b : Site) → 225 ≤ distance_along (y_of silicon a) (y_of silicon b) → 50625 ≤ squared_distance silicon a b
unfolding squared_distance
by_lines a b h = omega (arith, square_at_least _ h)

different_less : (p q : ℤ) → p <ℤ q → p ≢ q
different_less p q h e = omega (arith, ints)

different_greater : (p q : ℤ) → q <ℤ p → p ≢ q
different_greater p q h e = omega (arith, ints)

pub roomy : (a b : Site) → IsInRange a → IsInRange b → a ≢ b → 50625 ≤ squared_distance silicon a b
roomy a b ha hb ne = by (int_cmp a.n b.n) (int_cmp a.m b.m) (int_cmp a.l b.l) refl refl refl
  where
    by : (n m l : Ordering) → n ≡ int_cmp a.n b.n → m ≡ int_cmp a.m b.m → l ≡ int_cmp a.l b.l → 50625 ≤ squared_distance silicon a b
    by Less m l en em el = by_columns a b (int_ranked a.n b.n Less en)
    by Greater m l en em el = rw squared_distance-turned (by_columns b a (int_ranked a.n b.n Greater en))
    by Equal Less l en em el = by_lines a b (rows_apart a b ha hb (int_ranked a.m b.m Less em))
    by Equal Greater l en em el = rw squared_distance-turned (by_lines b a (rows_apart b a hb ha (int_ranked a.m b.m Greater em)))
    by Equal Equal Less en em el = by_lines a b (atoms_apart a b ha hb (int_ranked a.m b.m Equal em) (different_less a.l b.l (int_ranked a.l b.l Less el)))
    by Equal Equal Greater en em el = by_lines a b (atoms_apart a b ha hb (int_ranked a.m b.m Equal em) (different_greater a.l b.l (int_ranked a.l b.l Greater el)))
    by Equal Equal Equal en em el = absurd (ne (same_site a b (int_ranked a.m b.m Equal em) (int_ranked a.l b.l Equal el) (int_ranked a.n b.n Equal en)))

-- all places, of sites and of fixed charges, are in range
pub places_in_range : (sites : List Site) (fixes : List Fix) → ArePlacesInRange sites fixes → All IsInRange (places_of sites fixes)
places_in_range sites fixes h =
    All-append IsInRange sites (places_of_fixes fixes) h.all_sites
    (All-map IsInRange (λ (f : Fix). f.site) fixes (λ k d within. (h.all_fixes k d within).place))

pub never_too_close : (sites : List Site) (fixes : List Fix) (i j : ℕ) → IsLayoutRefusal silicon sites fixes (TooClose i j) → ⊥
never_too_close sites fixes i j h =
    let pair = h.2 in
    let all = places_in_range sites fixes h.0.in_range in
    let i_within : i < length (places_of sites fixes) = omega (arith, pair.earliest.before, pair.within) in
    let far = roomy _ _ (All-get_or IsInRange (places_of sites fixes) i origin i_within all)
    (All-get_or IsInRange (places_of sites fixes) j origin pair.within all)
    (h.1 i j origin pair.earliest.before pair.within) in
    omega (arith, far, pair.earliest.related)
