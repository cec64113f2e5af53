-- clear places make a layout: they in row order
use Rattle.std.proofs.Common.{◌≡◌, ◌≢◌, ◌+◌, ◌<◌, ◌≤◌, ◌⊎◌, inl, inr, List, ◌++◌, length, length-append, get_or, arith, refl, sym, ◌∙◌}
use Rattle.std.specs.Prelude.{AllPairs, Contains, IsPermutation}
use Rattle.std.proofs.lemmas.Bool.{cases_order}
use Rattle.std.proofs.lemmas.List.{get_or_default, get_or_append_left, get_or-append-add}
use Rattle.std.proofs.lemmas.List.Sorted.{IsPermutation-sym, IsPermutation-map, IsPermutation-append, length_permutation, All-permutation, Contains-permutation}
use Rattle.sidb_layout.specs.declared.site.Site.{Site}
use Rattle.sidb_layout.specs.declared.site.Fix.{Fix}
use Rattle.sidb_layout.specs.declared.lattice.Lattice.{Lattice}
use Rattle.sidb_layout.specs.declared.TheConstants.{LEAST_SQUARED_DISTANCE}
use Rattle.sidb_layout.specs.Site.{IsInRange, IsFixInRange, IsRowBefore, places_of, places_of_fixes}
use Rattle.sidb_layout.specs.Lattice.{squared_distance}
use Rattle.sidb_layout.specs.Layout.{Arrangement, AreApart, arrangement_of}
use Rattle.sidb_layout.specs.Refusal.{AreFew, AreDistinct, IsTooClose, IsMadeOf}
use Rattle.layout_laws.proofs.Sorting.{pairs_map, pairs_unmap, sorted}
use Rattle.layout_laws.proofs.RowOrder.{follows, either_before}

-- the law below
abbrev pub HaveNoDirection : Type 0
HaveNoDirection = (v : Lattice) (a b : Site) → squared_distance v a b ≡ squared_distance v b a

-- different places are apart where no pair is too close
apart_from_pairs : HaveNoDirection → (v : Lattice) (places : List Site) → AllPairs (λ a b. ¬ IsTooClose v a b) places → AreApart v places
apart_from_pairs turned v places none a b (i, i_within, at_i) (j, j_within, at_j) ne = by (cases_order i j)
  where
    b_at : get_or places j a ≡ b
    b_at = get_or_default places j a b j_within ∙ at_j

    by : (i ≡ j) ⊎ ((i < j) ⊎ (j < i)) → LEAST_SQUARED_DISTANCE ≤ squared_distance v a b
    by (inl e) = absurd (ne (sym at_i ∙ (rw e b_at)))
    by (inr (inl l)) = let far = rw (at_i, b_at) at (none i j a l j_within) in omega (arith, far)
    by (inr (inr l)) = let far = rw (at_i, b_at) at (none j i a l i_within) in omega (arith, far, turned v a b)

distinct_left : (xs ys : List Site) → AreDistinct (xs ++ ys) → AreDistinct xs
distinct_left xs ys distinct i j d before within same =
    let i_within : i < length xs = omega (arith, before, within) in
    distinct i j d before (omega (arith, within, length-append xs ys))
    (get_or_append_left xs ys d i i_within ∙ (same ∙ sym (get_or_append_left xs ys d j within)))

distinct_right : (xs ys : List Site) → AreDistinct (xs ++ ys) → AreDistinct ys
distinct_right xs ys distinct i j d before within same =
    distinct (length xs + i) (length xs + j) d (omega (arith, before)) (omega (arith, within, length-append xs ys))
    (get_or-append-add xs ys i d ∙ (same ∙ sym (get_or-append-add xs ys j d)))

-- no element of the first part is one of the second
separate : (xs ys : List Site) → AreDistinct (xs ++ ys) → (s : Site) → Contains xs s → Contains ys s → ⊥
separate xs ys distinct s (i, i_within, at_i) (j, j_within, at_j) =
    distinct i (length xs + j) s (omega (arith, i_within)) (omega (arith, j_within, length-append xs ys))
    (get_or_append_left xs ys s i i_within ∙ (at_i ∙ sym (get_or-append-add xs ys j s ∙ at_j)))

-- what moved lists contain, the given ones contain
back : (xs ys : List Site) → IsPermutation xs ys → (s : Site) → Contains ys s → Contains xs s
back xs ys moved s c = Contains-permutation ys xs s (IsPermutation-sym xs ys moved) c

pub layout_of_clear : HaveNoDirection → (v : Lattice) (sites : List Site) (fixes : List Fix) → AreFew sites fixes
    → AreDistinct (places_of sites fixes) → AllPairs (λ a b. ¬ IsTooClose v a b) (places_of sites fixes) → (p : Arrangement) × IsMadeOf v sites fixes p
layout_of_clear turned v sites fixes few distinct clear =
    let fix_places = places_of_fixes fixes in
    let own_sites = sorted IsRowBefore follows sites (λ i j d b w. either_before _ _ (distinct_left sites fix_places distinct i j d b w)) in
    let apart_fixes = pairs_unmap (λ a b. a ≢ b) (λ (f : Fix). f.site) fixes (distinct_right sites fix_places distinct) in
    let own_fixes = sorted (λ (f g : Fix). IsRowBefore f.site g.site) (λ f g h. follows f.site g.site h.site) fixes
    (λ i j d b w. either_before _ _ (apart_fixes i j d b w)) in
    let places_moved = IsPermutation-map (λ (f : Fix). f.site) fixes own_fixes.0 own_fixes.1.moved in
    let all_moved = IsPermutation-append sites own_sites.0 fix_places (places_of_fixes own_fixes.0) own_sites.1.moved places_moved in
    let apart = apart_from_pairs turned v (places_of sites fixes) clear in (
      arrangement_of v own_sites.0 own_fixes.0,
      record {
        layout = record {
          few_sites = omega (arith, length_permutation sites own_sites.0 own_sites.1.moved, few.few_sites);
          few_fixes = omega (arith, length_permutation fixes own_fixes.0 own_fixes.1.moved, few.few_fixes);
          sites_in_range = All-permutation IsInRange sites own_sites.0 own_sites.1.moved few.in_range.all_sites;
          fixes_in_range = All-permutation IsFixInRange fixes own_fixes.0 own_fixes.1.moved few.in_range.all_fixes;
          sites_in_order = own_sites.1.ordered;
          fixes_in_order = pairs_map IsRowBefore (λ (f : Fix). f.site) own_fixes.0 own_fixes.1.ordered;
          no_fix_on_a_site = λ s c f. separate sites fix_places distinct s
              (back sites own_sites.0 own_sites.1.moved s c) (back fix_places (places_of_fixes own_fixes.0) places_moved s f);
          apart = λ a b c d ne. apart a b (back (places_of sites fixes) (places_of own_sites.0 own_fixes.0) all_moved a c)
              (back (places_of sites fixes) (places_of own_sites.0 own_fixes.0) all_moved b d) ne;
        };
        on_lattice = refl;
        same_sites = own_sites.1.moved;
        same_fixes = own_fixes.1.moved;
      },
    )
