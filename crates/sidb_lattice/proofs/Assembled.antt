-- the classes of a layout from its squared distances
use Rattle.std.proofs.Common.{◌≡◌, ◌≢◌, ℕ, suc, ◌+◌, ◌-◌, ◌*◌, ◌<◌, ◌⊎◌, inl, inr, List, length, get_or, slice_index, slice_get, Some, min, max, arith, refl, sym, ap, ◌∙◌}
use Rattle.std.specs.Prelude.{All, Contains}
use Rattle.std.proofs.lemmas.Bool.{cases_order}
use Rattle.std.proofs.lemmas.List.Elements.{All-get_or, All-contains, Contains-get_or}
use Rattle.std.proofs.lemmas.Option.{slice_get-get_or}
use Rattle.charge_model.specs.Problem.{pairs_before}
use Rattle.sidb_layout.specs.Site.{place_at}
use Rattle.sidb_layout.specs.Layout.{Arrangement, IsLayout}
use Rattle.sidb_lattice.specs.Classes.{IsClassing, AreClasses, IsBetween, IsDistance, classing_of, class_between, class_near, pair_distance, near_distance}
use Rattle.sidb_lattice.specs.Measured.{AreAllPairs, AreAllNear, AreRising, ArePlaces}
use Rattle.charge_model.proofs.Pairs.{pairs_before-le, place_in_order, place_turned, row_within}
use Rattle.sidb_lattice.proofs.Apart.{squared_distance-turned}

-- the lists of a layout's squared distances, and the places of those in the rising list
pub record AreLists (p : Arrangement) (pairs near ds pair_classes near_classes : List ℕ) : Type 0 where
  pub layout : IsLayout p
  pub of_pairs : AreAllPairs p pairs
  pub of_near : AreAllNear p near
  pub rising : AreRising pairs near ds
  pub pair_places : ArePlaces ds pairs pair_classes
  pub near_places : ArePlaces ds near near_classes

-- a fact of all squared distances is one of all in the rising list
all_rising : (P : ℕ → Type 0) (xs ys ds : List ℕ) → AreRising xs ys ds → All P xs → All P ys → All P ds
all_rising P xs ys ds h on_xs on_ys k d within = by (h.from (get_or ds k d) (Contains-get_or ds k d within))
  where
    by : Contains xs (get_or ds k d) ⊎ Contains ys (get_or ds k d) → P (get_or ds k d)
    by (inl c) = All-contains P xs (get_or ds k d) on_xs c
    by (inr c) = All-contains P ys (get_or ds k d) on_ys c

pub is_classing : (p : Arrangement) (pairs near ds pc nc : List ℕ) → AreLists p pairs near ds pc nc
    → IsClassing (classing_of (length p.sites) (length p.fixes) ds pc nc)
is_classing p pairs near ds pc nc h = record {
  few_sites = h.layout.few_sites;
  few_fixes = h.layout.few_fixes;
  class_per_pair = omega (arith, h.pair_places.whole, h.of_pairs.whole);
  class_per_near = omega (arith, h.near_places.whole, h.of_near.whole);
  classes = h.pair_places.within;
  near = h.near_places.within;
  few_classes = omega (arith, h.rising.few, h.of_pairs.whole, h.of_near.whole);
  rising = h.rising.rises;
  in_range = all_rising IsDistance pairs near ds h.rising h.of_pairs.in_range h.of_near.in_range;
}

-- what stands at a place of the rising list
read_place : (ds wanted places : List ℕ) (k d : ℕ) → ArePlaces ds wanted places → k < length wanted → slice_index wanted k ≡ d
    → slice_get ds (slice_index places k) ≡ Some d
read_place ds wanted places k d h within is =
    let at : k < length places = omega (arith, h.whole) in
    let below = All-get_or (λ c. c < length ds) places k 0 at h.within in
    slice_get-get_or ds (slice_index places k) 0 below ∙ ap Some (h.found k within ∙ is)

read_pair : (p : Arrangement) (pairs near ds pc nc : List ℕ) (i j : ℕ) → AreLists p pairs near ds pc nc → i < j → j < length p.sites
    → slice_get ds (slice_index pc (pairs_before (length p.sites) i + (j - suc i))) ≡ Some (pair_distance p i j)
read_pair p pairs near ds pc nc i j h order within =
    let i_within : i < length p.sites = omega arith in
    let later = pairs_before-le (length p.sites) (suc i) (length p.sites) i_within in
    let at : pairs_before (length p.sites) i + (j - suc i) < length pairs = omega (arith, later, h.of_pairs.whole) in
    read_place ds pairs pc _ (pair_distance p i j) h.pair_places at (h.of_pairs.rows i j i_within order within)

pub are_classes : (p : Arrangement) (pairs near ds pc nc : List ℕ) → AreLists p pairs near ds pc nc
    → AreClasses p (classing_of (length p.sites) (length p.fixes) ds pc nc)
unfolding class_between class_near
are_classes p pairs near ds pc nc h = record {
  whole = is_classing p pairs near ds pc nc h;
  sites = refl;
  fixes = refl;
  used = all_rising (IsBetween p) pairs near ds h.rising h.of_pairs.used h.of_near.used;
  pairs = λ i j ne li lj. by i j ne li lj (cases_order i j);
  nears = λ i a li la.
      let at : i * length p.fixes + a < length near = omega (arith, row_within (length p.sites) (length p.fixes) i a li la, h.of_near.whole) in
      read_place ds near nc _ (near_distance p i a) h.near_places at (h.of_near.rows i a li la);
}
  where
    by : (i j : ℕ) → i ≢ j → i < length p.sites → j < length p.sites → (i ≡ j) ⊎ ((i < j) ⊎ (j < i))
        → slice_get ds (slice_index pc (pairs_before (length p.sites) (min i j) + (max i j - suc (min i j)))) ≡ Some (pair_distance p i j)
    by i j ne li lj (inl e) = absurd (ne e)
    by i j ne li lj (inr (inl l)) =
        let place = place_in_order (length p.sites) i j l in rw (← place) (read_pair p pairs near ds pc nc i j h l lj)
    by i j ne li lj (inr (inr l)) =
        let place = place_turned (length p.sites) i j l in
        let turned = squared_distance-turned p.lattice (place_at p.sites i) (place_at p.sites j) in
        rw (← place) (read_pair p pairs near ds pc nc j i h l li ∙ ap Some (sym turned))
