-- sorted places that are not refused are a layout
use Rattle.std.proofs.Common.{◌≡◌, ◌+◌, ◌<◌, ◌≤◌, ℤ, ◌⊎◌, inl, inr, List, ◌++◌, length, length-append, arith, refl, sym, ◌∙◌}
use Rattle.std.specs.Prelude.{Contains, IsPermutation}
use Rattle.std.specs.List.Sorted.{IsSorted, IsSortedByKey}
use Rattle.std.proofs.lemmas.Bool.{cases_order}
use Rattle.std.proofs.lemmas.Int.{ints}
use Rattle.std.proofs.lemmas.List.{get_or_default, get_or_append_left, get_or-append-add}
use Rattle.std.proofs.lemmas.List.Sorted.{IsPermutation-sym, IsPermutation-map, IsPermutation-append, length_permutation, All-permutation, Contains-permutation}
use Rattle.sidb_layout.specs.declared.site.Site.{Site}
use Rattle.sidb_layout.specs.declared.site.Fix.{Fix}
use Rattle.sidb_layout.specs.declared.lattice.Lattice.{Lattice}
use Rattle.sidb_layout.specs.Site.{IsInRange, IsFixInRange, row_cmp, places_of, places_of_fixes, place_at, origin}
use Rattle.sidb_layout.specs.Lattice.{squared_distance, distance_along, x_of, y_of}
use Rattle.sidb_layout.specs.Layout.{IsLayout, AreApart, arrangement_of}
use Rattle.sidb_layout.specs.Refusal.{AreDistinct, IsTooClose}
use Rattle.sidb_layout.specs.Clash.{AreFinePlaces, HasNoPair}
use Rattle.sidb_layout.proofs.Firsts.{at_each_default}
use Rattle.sidb_layout.proofs.RowOrder.{in_row_order, fixes_in_row_order}
use Rattle.sidb_layout.proofs.Permuted.{distinct_permuted}

gap-turned : (p q : ℤ) → distance_along p q ≡ distance_along q p
gap-turned p q = omega (arith, ints)

pub squared_distance-turned : (v : Lattice) (a b : Site) → squared_distance v a b ≡ squared_distance v b a
unfolding squared_distance
squared_distance-turned v a b = rw (gap-turned (x_of v a) (x_of v b), gap-turned (y_of v a) (y_of v b)) refl

-- any two different places of a list without close pairs are apart
pub apart_from_pairs : (v : Lattice) (places : List Site) → HasNoPair (IsTooClose v) places → AreApart v places
apart_from_pairs v places none a b (i, i_within, at_i) (j, j_within, at_j) ne = by (cases_order i j)
  where
    is_a : place_at places i ≡ a
    is_a = get_or_default places i origin a i_within ∙ at_i

    is_b : place_at places j ≡ b
    is_b = get_or_default places j origin b j_within ∙ at_j

    by : (i ≡ j) ⊎ ((i < j) ⊎ (j < i)) → 50625 ≤ squared_distance v a b
    by (inl e) = absurd (ne (sym is_a ∙ (rw e is_b)))
    by (inr (inl l)) = let far = rw (is_a, is_b) at (none i j l j_within) in omega arith
    by (inr (inr l)) =
        let far = rw (is_b, is_a) at (none j i l i_within) in omega (arith, squared_distance-turned v a b)

apart_permuted : (v : Lattice) (xs ys : List Site) → IsPermutation xs ys → AreApart v xs → AreApart v ys
apart_permuted v xs ys moved apart a b in_a in_b ne =
    let back = IsPermutation-sym xs ys moved in
    apart a b (Contains-permutation ys xs a back in_a) (Contains-permutation ys xs b back in_b) ne

distinct_left : (xs ys : List Site) → AreDistinct (xs ++ ys) → AreDistinct xs
distinct_left xs ys distinct i j d before within same =
    let i_within : i < length xs = omega arith in
    distinct i j d before (omega (arith, length-append xs ys))
    (get_or_append_left xs ys d i i_within ∙ (same ∙ sym (get_or_append_left xs ys d j within)))

distinct_right : (xs ys : List Site) → AreDistinct (xs ++ ys) → AreDistinct ys
distinct_right xs ys distinct i j d before within same =
    distinct (length xs + i) (length xs + j) d (omega arith) (omega (arith, length-append xs ys))
    (get_or-append-add xs ys i d ∙ (same ∙ sym (get_or-append-add xs ys j d)))

-- no element of the first part is one of the second
separate : (xs ys : List Site) → AreDistinct (xs ++ ys) → (s : Site) → Contains xs s → Contains ys s → ⊥
separate xs ys distinct s (i, i_within, at_i) (j, j_within, at_j) =
    distinct i (length xs + j) s (omega arith) (omega (arith, length-append xs ys))
    (get_or_append_left xs ys s i i_within ∙ (at_i ∙ sym (get_or-append-add xs ys j s ∙ at_j)))

pub is_made : (v : Lattice) (sites own_sites : List Site) (fixes own_fixes : List Fix) → AreFinePlaces v sites fixes
    → IsPermutation sites own_sites → IsPermutation fixes own_fixes → IsSorted row_cmp own_sites
    → IsSortedByKey (λ (f : Fix). f.site) row_cmp own_fixes → IsLayout (arrangement_of v own_sites own_fixes)
is_made v sites own_sites fixes own_fixes fine sites_moved fixes_moved sites_sorted fixes_sorted =
    let places = IsPermutation-map (λ (f : Fix). f.site) fixes own_fixes fixes_moved in
    let all_places = IsPermutation-append sites own_sites (places_of_fixes fixes) (places_of_fixes own_fixes) sites_moved places in
    let given = at_each_default (λ a b. a ≡ b) (places_of sites fixes) fine.distinct in
    let distinct = distinct_permuted origin (places_of sites fixes) (places_of own_sites own_fixes) all_places given in
    record {
      few_sites = omega (arith, length_permutation sites own_sites sites_moved, fine.few.few_sites);
      few_fixes = omega (arith, length_permutation fixes own_fixes fixes_moved, fine.few.few_fixes);
      sites_in_range = All-permutation IsInRange sites own_sites sites_moved fine.few.in_range.all_sites;
      fixes_in_range = All-permutation IsFixInRange fixes own_fixes fixes_moved fine.few.in_range.all_fixes;
      sites_in_order = in_row_order own_sites sites_sorted (distinct_left own_sites (places_of_fixes own_fixes) distinct);
      fixes_in_order = fixes_in_row_order own_fixes fixes_sorted (distinct_right own_sites (places_of_fixes own_fixes) distinct);
      no_fix_on_a_site = separate own_sites (places_of_fixes own_fixes) distinct;
      apart = apart_permuted v (places_of sites fixes) (places_of own_sites own_fixes) all_places (apart_from_pairs v (places_of sites fixes) fine.apart);
    }
