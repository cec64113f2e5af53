-- each layout has classes
use Rattle.std.proofs.Common.{◌≡◌, subst, refl, ℕ, zero, suc, ◌+◌, ◌-◌, ◌*◌, ◌<◌, ◌≤◌, ◌⊎◌, inl, inr, List, [], ◌∷◌, ◌++◌, length, slice_index, arith}
use Rattle.std.proofs.lemmas.Bool.{cases_lt}
use Rattle.std.proofs.lemmas.List.Elements.{All-nil}
use Rattle.charge_model.specs.Problem.{pairs_before}
use Rattle.sidb_layout.specs.Site.{place_at, places_of_fixes}
use Rattle.sidb_layout.specs.Layout.{Arrangement, IsLayout}
use Rattle.sidb_lattice.specs.Classes.{AreClasses, Classing, IsBetween, IsDistance, classing_of, pair_distance, near_distance}
use Rattle.sidb_lattice.specs.Measured.{ArePairsUpto, AreNearUpto}
use Rattle.sidb_lattice.proofs.Apart.{site_in_range, fix_in_range, pair_apart, near_apart}
use Rattle.sidb_lattice.proofs.Assembled.{are_classes}
use Rattle.sidb_lattice.proofs.Merged.{some_rising, some_places}
use Rattle.sidb_lattice.proofs.Rising.{all_first, all_second}
use Rattle.sidb_lattice.proofs.Rows.{pairs_more, near_more}
use Rattle.sidb_lattice.proofs.Small.{distance_within}

module _ (p : Arrangement) (layout : IsLayout p) where
  -- the squared distance of two sites is one
  pair_in_range : (i j : ℕ) → i < j → j < length p.sites → IsDistance (pair_distance p i j)
  pair_in_range i j order within = record {
    least = pair_apart p i j layout order within;
    greatest = distance_within p.lattice (place_at p.sites i) (place_at p.sites j) (site_in_range p i layout (omega (arith, order, within))) (site_in_range p j layout within);
  }

  -- and so is that of a site and a fixed charge
  near_in_range : (i a : ℕ) → i < length p.sites → a < length p.fixes → IsDistance (near_distance p i a)
  near_in_range i a site fix = record {
    least = near_apart p i a layout site fix;
    greatest = distance_within p.lattice (place_at p.sites i) (place_at (places_of_fixes p.fixes) a) (site_in_range p i layout site) (fix_in_range p a layout fix);
  }

  -- the squared distances of site i with the m sites after it, behind those of the rows before
  pairs_row : (i m : ℕ) → suc i + m ≤ length p.sites → (ds : List ℕ) → ArePairsUpto p i (suc i) ds → (more : List ℕ) × ArePairsUpto p i (suc i + m) more
  pairs_row i zero few ds are =
      let none : suc i ≡ suc i + 0 = omega arith in
      (ds, subst (λ j. ArePairsUpto p i j ds) none are)
  pairs_row i (suc m) few ds are =
      let before = pairs_row i m (omega (arith, few)) ds are in
      let order : i < suc i + m = omega arith in
      let within : suc i + m < length p.sites = omega (arith, few) in
      let more = pairs_more p i (suc i + m) before.0 (pair_distance p i (suc i + m)) order within before.1 refl (pair_in_range i (suc i + m) order within) in
      let next : suc i + m + 1 ≡ suc i + suc m = omega arith in
      (before.0 ++ pair_distance p i (suc i + m) ∷ [], subst (λ j. ArePairsUpto p i j (before.0 ++ pair_distance p i (suc i + m) ∷ [])) next more)

  -- after the last pair of a row comes the next row
  pairs_next : (i : ℕ) (ds : List ℕ) → i < length p.sites → ArePairsUpto p i (length p.sites) ds → ArePairsUpto p (suc i) (suc (suc i)) ds
  pairs_next i ds within are = record {
    whole = omega (arith, are.whole);
    rows = λ a b l m w. by a b l m w (cases_lt a i);
    row = λ b l m. absurd (omega (arith, l, m));
    used = are.used;
    in_range = are.in_range;
  }
    where
      by : (a b : ℕ) → a < suc i → a < b → b < length p.sites → (a < i) ⊎ (i ≤ a) → slice_index ds (pairs_before (length p.sites) a + (b - suc a)) ≡ pair_distance p a b
      by a b l m w (inl before) = are.rows a b before m w
      by a b l m w (inr last) =
          let same : i ≡ a = omega (arith, l, last) in
          subst (λ k. slice_index ds (pairs_before (length p.sites) k + (b - suc k)) ≡ pair_distance p k b) same (are.row b (omega (arith, m, last, l)) w)

  -- before the first pair there are no squared distances
  no_pairs : ArePairsUpto p 0 1 []
  no_pairs = record {
    whole = omega arith;
    rows = λ a b l m w. absurd (omega (arith, l));
    row = λ b l m. absurd (omega (arith, l, m));
    used = All-nil (IsBetween p);
    in_range = All-nil IsDistance;
  }

  -- the squared distances of the rows before site i
  pairs_upto : (i : ℕ) → i ≤ length p.sites → (ds : List ℕ) × ArePairsUpto p i (suc i) ds
  pairs_upto zero few = ([], no_pairs)
  pairs_upto (suc i) few =
      let before = pairs_upto i (omega (arith, few)) in
      let end : suc i + (length p.sites - suc i) ≡ length p.sites = omega (arith, few) in
      let row = pairs_row i (length p.sites - suc i) (omega (arith, end)) before.0 before.1 in
      (row.0, pairs_next i row.0 few (subst (λ j. ArePairsUpto p i j row.0) end row.1))

  -- the squared distances of site i with the first m fixed charges, behind those of the sites before
  near_row : (i m : ℕ) → i < length p.sites → m ≤ length p.fixes → (ds : List ℕ) → AreNearUpto p i 0 ds → (more : List ℕ) × AreNearUpto p i m more
  near_row i zero site few ds are = (ds, are)
  near_row i (suc m) site few ds are =
      let before = near_row i m site (omega (arith, few)) ds are in
      let more = near_more p i m before.0 (near_distance p i m) site few before.1 refl (near_in_range i m site few) in
      let next : m + 1 ≡ suc m = omega arith in
      (before.0 ++ near_distance p i m ∷ [], subst (λ a. AreNearUpto p i a (before.0 ++ near_distance p i m ∷ [])) next more)

  -- after the last fixed charge comes the next site
  near_next : (i : ℕ) (ds : List ℕ) → AreNearUpto p i (length p.fixes) ds → AreNearUpto p (suc i) 0 ds
  near_next i ds are = record {
    whole = omega (arith, are.whole);
    rows = λ k b l w. by k b l w (cases_lt k i);
    row = λ b l. absurd (omega (arith, l));
    used = are.used;
    in_range = are.in_range;
  }
    where
      by : (k b : ℕ) → k < suc i → b < length p.fixes → (k < i) ⊎ (i ≤ k) → slice_index ds (k * length p.fixes + b) ≡ near_distance p k b
      by k b l w (inl before) = are.rows k b before w
      by k b l w (inr last) =
          let same : i ≡ k = omega (arith, l, last) in
          subst (λ n. slice_index ds (n * length p.fixes + b) ≡ near_distance p n b) same (are.row b w)

  -- before the first site there are none
  no_near : AreNearUpto p 0 0 []
  no_near = record {
    whole = omega arith;
    rows = λ k b l w. absurd (omega (arith, l));
    row = λ b l. absurd (omega (arith, l));
    used = All-nil (IsBetween p);
    in_range = All-nil IsDistance;
  }

  -- the squared distances of the sites before site i
  near_upto : (i : ℕ) → i ≤ length p.sites → (ds : List ℕ) × AreNearUpto p i 0 ds
  near_upto zero few = ([], no_near)
  near_upto (suc i) few =
      let before = near_upto i (omega (arith, few)) in
      let row = near_row i (length p.fixes) few (omega arith) before.0 before.1 in
      (row.0, near_next i row.0 row.1)

  -- the classes of the layout
  pub some_classes : (c : Classing) × AreClasses p c
  some_classes =
      let pairs = pairs_upto (length p.sites) (omega arith) in
      let near = near_upto (length p.sites) (omega arith) in
      let rising = some_rising pairs.0 near.0 in
      let pair_places = some_places rising.0 pairs.0 (all_first pairs.0 near.0 rising.0 rising.1) in
      let near_places = some_places rising.0 near.0 (all_second pairs.0 near.0 rising.0 rising.1) in (
        classing_of (length p.sites) (length p.fixes) rising.0 pair_places.0 near_places.0,
        are_classes p pairs.0 near.0 rising.0 pair_places.0 near_places.0 (record {
          layout = layout;
          of_pairs = pairs.1;
          of_near = near.1;
          rising = rising.1;
          pair_places = pair_places.1;
          near_places = near_places.1;
        }),
      )
