-- places of a layout are in range and apart
use Rattle.std.proofs.Common.{◌≡◌, ◌≢◌, ℕ, ◌^◌, ◌<◌, ◌≤◌, ℤ, pos, w64, to_z, of_z, unsigned_abs, inl, inr, length, arith, refl, ap}
use Rattle.std.specs.Prelude.{All}
use Rattle.std.proofs.lemmas.Int.{ints, to_z_pos}
use Rattle.std.proofs.lemmas.List.{length-map}
use Rattle.std.proofs.lemmas.List.Elements.{All-map, All-get_or, Contains-get_or, Contains-append_left, Contains-append_right}
use Rattle.sidb_layout.specs.declared.site.Site.{Site}
use Rattle.sidb_layout.specs.declared.site.Fix.{Fix}
use Rattle.sidb_layout.specs.declared.lattice.Lattice.{Lattice}
use Rattle.sidb_layout.specs.Site.{IsInRange, IsRowBefore, place_at, places_of_fixes, origin}
use Rattle.sidb_layout.specs.Lattice.{squared_distance, distance_along, x_of, y_of}
use Rattle.sidb_layout.specs.Layout.{Arrangement, IsLayout}
use Rattle.sidb_lattice.specs.Classes.{pair_distance, near_distance}

pub site_in_range : (p : Arrangement) (i : ℕ) → IsLayout p → i < length p.sites → IsInRange (place_at p.sites i)
site_in_range p i h within = All-get_or IsInRange p.sites i origin within h.sites_in_range

pub fix_in_range : (p : Arrangement) (a : ℕ) → IsLayout p → a < length p.fixes → IsInRange (place_at (places_of_fixes p.fixes) a)
fix_in_range p a h within =
    let all : All IsInRange (places_of_fixes p.fixes) =
    All-map IsInRange (λ (f : Fix). f.site) p.fixes (λ k d w. (h.fixes_in_range k d w).place) in
    All-get_or IsInRange (places_of_fixes p.fixes) a origin (omega (arith, length-map p.fixes (λ (f : Fix). f.site))) all

different : (a b : Site) → IsRowBefore a b → a ≢ b
different a b (inl h) e = let m : a.m ≡ b.m = ap (λ (s : Site). s.m) e in omega (arith, ints)
different a b (inr (m, inl h)) e = let l : a.l ≡ b.l = ap (λ (s : Site). s.l) e in omega (arith, ints)
different a b (inr (m, inr (l, h))) e = let n : a.n ≡ b.n = ap (λ (s : Site). s.n) e in omega (arith, ints)

pub pair_apart : (p : Arrangement) (i j : ℕ) → IsLayout p → i < j → j < length p.sites → 50625 ≤ pair_distance p i j
pair_apart p i j h order within =
    let i_within : i < length p.sites = omega arith in
    let fixed = places_of_fixes p.fixes in
    h.apart (place_at p.sites i) (place_at p.sites j)
    (Contains-append_left p.sites fixed _ (Contains-get_or p.sites i origin i_within))
    (Contains-append_left p.sites fixed _ (Contains-get_or p.sites j origin within))
    (different _ _ (h.sites_in_order i j origin order within))

pub near_apart : (p : Arrangement) (i a : ℕ) → IsLayout p → i < length p.sites → a < length p.fixes → 50625 ≤ near_distance p i a
near_apart p i a h i_within a_within =
    let fixed = places_of_fixes p.fixes in
    let within : a < length fixed = omega (arith, length-map p.fixes (λ (f : Fix). f.site)) in
    let site = Contains-get_or p.sites i origin i_within in
    let fix = Contains-get_or fixed a origin within in
    h.apart (place_at p.sites i) (place_at fixed a) (Contains-append_left p.sites fixed _ site) (Contains-append_right p.sites fixed _ fix)
    (λ e. h.no_fix_on_a_site (place_at fixed a) (rw e at site) fix)

gap-turned : (p q : ℤ) → distance_along p q ≡ distance_along q p
gap-turned p q = omega (arith, ints)

pub squared_distance-turned : (v : Lattice) (a b : Site) → squared_distance v a b ≡ squared_distance v b a
unfolding squared_distance
squared_distance-turned v a b = rw (gap-turned (x_of v a) (x_of v b), gap-turned (y_of v a) (y_of v b)) refl

-- what the code's cast gives
pub cast_read : (z : ℤ) (d : ℕ) → z ≡ pos d → d < 2 ^ 47 → unsigned_abs (to_z w64 (of_z w64 z)) ≡ d
cast_read z d e small =
    let fits : d < 2 ^ 63 = omega arith in rw (e, to_z_pos w64 d fits) refl
