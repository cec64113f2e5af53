-- each table of the potentials at a point of a rectangle is a table of the rectangle's problem
use Rattle.std.proofs.Common.{◌≡◌, ◌≢◌, ◌∙◌, ℕ, suc, ◌+◌, ◌-◌, ◌*◌, ◌<◌, ◌≤◌, min, max, ℤ, pos, ◌*ℤ◌, ◌≤ℤ◌, inl, inr, ◌↔◌, List, length, slice_get, slice_index, slice_index_or, Some, sym, ap, ap₂, subst, arith}
use Rattle.std.proofs.lemmas.List.{length-map}
use Rattle.std.proofs.lemmas.List.Elements.{All-get_or}
use Rattle.std.proofs.lemmas.Option.{slice_get-get_or}
use Rattle.root_exp.specs.Root.{IsRoot}
use Rattle.root_exp.specs.Series.{closed_divisor, closed_sum, divisor_of, series_sum}
use Rattle.charge_model.specs.declared.span.Span.{Span}
use Rattle.charge_model.specs.Problem.{IsTable, Problem, Table, class_of, near_class_of, hi_in, lo_in, pairs_before}
use Rattle.sidb_layout.specs.Layout.{Arrangement}
use Rattle.sidb_lattice.specs.Classes.{AreClasses, Classing, IsBetween, IsClassing, IsDistance, class_between, class_near, near_distance, pair_distance}
use Rattle.model_params.specs.declared.params.Params.{Params}
use Rattle.screened_coulomb.specs.Potential.{HoldsDistance, coulomb_of}
use Rattle.screened_coulomb.specs.Rounding.{IsRoundedSpan, rounded_ends}
use Rattle.screened_coulomb.specs.Layouts.{IsClassSpan, IsProblemOf}
use Rattle.parameter_regions.specs.declared.rectangles.Rectangle.{Rectangle}
use Rattle.parameter_regions.specs.Points.{IsPotentialAt, Point}
use Rattle.parameter_regions.specs.Rectangles.{IsInRectangle}
use Rattle.parameter_regions.specs.Regions.{IsRegionProblemOf, IsTableAt}
use Rattle.parameter_regions.proofs.PotentialLemmas.{potential_above, potential_below}

-- the laws below
pub record AreLaws : Type 0 where
  pub root_of : (n : ℕ) → (a : ℕ) × IsRoot n a
  pub greater : (p q k : ℕ) → p < suc (suc k) * q → series_sum p q k * closed_divisor p q k ≤ closed_sum p q k * divisor_of q k
  pub some_span : (p : Params) (d : ℕ) → 50625 ≤ d → (lo : ℤ) × (hi : ℤ) × IsClassSpan p d lo hi
  pub one_span : (p : Params) (d : ℕ) (lo hi lo2 hi2 : ℤ) → IsRoundedSpan p d lo hi → IsRoundedSpan p d lo2 hi2 → (lo ≡ lo2) × (hi ≡ hi2)
  pub one_classing : (p : Arrangement) (c e : Classing) → AreClasses p c → AreClasses p e → c ≡ e
  pub equal_classes : (c : Classing) (k m d e : ℕ) → IsClassing c → slice_get c.distances k ≡ Some d → slice_get c.distances m ≡ Some e → ((k ≡ m) ↔ (d ≡ e))

-- the rounded span of a distance holds it
rounded_holds : AreLaws → (p : Params) (d : ℕ) (lo hi : ℤ) → 50625 ≤ d → IsRoundedSpan p d lo hi → HoldsDistance p d lo hi
rounded_holds laws p d lo hi apart is =
    let (low, high, span) = laws.some_span p d apart in
    let same = laws.one_span p d low high lo hi span.rounded is in
    let at_lo = subst (λ (z : ℤ). HoldsDistance p d z high) same.0 span.holds in
    subst (λ (z : ℤ). HoldsDistance p d lo z) same.1 at_lo

-- with whole ends
whole_holds : AreLaws → (p : Params) (d : ℕ) (lo hi : ℤ) → 50625 ≤ d → (is : IsRoundedSpan p d lo hi)
    → HoldsDistance p d (pos (rounded_ends p is.root).lo) (pos (rounded_ends p is.root).hi)
whole_holds laws p d lo hi apart is =
    let at_lo = subst (λ (z : ℤ). HoldsDistance p d z hi) is.lo_is (rounded_holds laws p d lo hi apart is) in
    subst (λ (z : ℤ). HoldsDistance p d (pos (rounded_ends p is.root).lo) z) is.hi_is at_lo

-- a potential at a point of a rectangle is at least the lower end at the weakest corner, times the scale,
-- and at most the upper one at the strongest
module _ (laws : AreLaws) (r : Rectangle) (point : Point) (inside : IsInRectangle r point) (d scale : ℕ) (z : ℤ) (apart : 50625 ≤ d) (number : IsPotentialAt (coulomb_of r.weakest) point d scale z) where
  pub above_weakest : (lo hi : ℤ) → IsRoundedSpan r.weakest d lo hi → (pos scale *ℤ lo) ≤ℤ z
  above_weakest lo hi is =
      subst (λ (x : ℤ). (pos scale *ℤ x) ≤ℤ z) (sym is.lo_is)
      (potential_above r point d (rounded_ends r.weakest is.root).lo (rounded_ends r.weakest is.root).hi scale z inside (whole_holds laws r.weakest d lo hi apart is) number)

  pub below_strongest : (lo hi : ℤ) → IsRoundedSpan r.strongest d lo hi → z ≤ℤ (pos scale *ℤ hi)
  below_strongest lo hi is =
      subst (λ (x : ℤ). z ≤ℤ (pos scale *ℤ x)) (sym is.hi_is)
      (potential_below r point d (rounded_ends r.strongest is.root).lo (rounded_ends r.strongest is.root).hi scale z (omega (arith, apart)) inside (whole_holds laws r.strongest d lo hi apart is) number)

-- the classes of the problems at the two corners are the same
pub same_classes : AreLaws → (layout : Arrangement) (r : Rectangle) (weakest strongest : Problem) (weak : IsProblemOf layout r.weakest weakest) (strong : IsProblemOf layout r.strongest strongest)
    → strong.classes ≡ weak.classes
same_classes laws layout r weakest strongest weak strong = laws.one_classing layout strong.classes weak.classes strong.of_layout weak.of_layout

pub distance_apart : (layout : Arrangement) (p : Params) (problem : Problem) (is : IsProblemOf layout p problem) → (c : ℕ) → c < length is.classes.distances → 50625 ≤ slice_index is.classes.distances c
distance_apart layout p problem is c less = (All-get_or IsDistance is.classes.distances c 0 less is.of_layout.whole.in_range).least

pub strong_spans : AreLaws → (layout : Arrangement) (r : Rectangle) (weakest strongest : Problem) (weak : IsProblemOf layout r.weakest weakest) (strong : IsProblemOf layout r.strongest strongest)
    → (c : ℕ) → c < length weak.classes.distances → IsRoundedSpan r.strongest (slice_index weak.classes.distances c) (lo_in strongest.spans c) (hi_in strongest.spans c)
strong_spans laws layout r weakest strongest weak strong =
    subst (λ (k : Classing). (c : ℕ) → c < length k.distances → IsRoundedSpan r.strongest (slice_index k.distances c) (lo_in strongest.spans c) (hi_in strongest.spans c))
    (same_classes laws layout r weakest strongest weak strong) strong.rounded

-- the parts of the problem of a rectangle
module _ (laws : AreLaws) (layout : Arrangement) (r : Rectangle) (q : Problem) (is : IsRegionProblemOf layout r q) where
  whole : IsClassing is.of_weakest.classes
  whole = is.of_weakest.of_layout.whole

  pub count : length q.spans ≡ length is.of_weakest.classes.distances
  count = sym (length-map q.spans (λ (s : Span). s.lo)) ∙ ap length is.least ∙ length-map is.weakest.spans (λ (s : Span). s.lo) ∙ is.of_weakest.spans

  apart : (c : ℕ) → c < length is.of_weakest.classes.distances → 50625 ≤ slice_index is.of_weakest.classes.distances c
  apart = distance_apart layout r.weakest is.weakest is.of_weakest

  lo_is : (c : ℕ) → lo_in q.spans c ≡ lo_in is.weakest.spans c
  lo_is c = ap (λ (xs : List ℤ). slice_index_or xs c (pos 0)) is.least

  hi_is : (c : ℕ) → hi_in q.spans c ≡ hi_in is.strongest.spans c
  hi_is c = ap (λ (xs : List ℤ). slice_index_or xs c (pos 0)) is.greatest

  -- the rounded spans at the two corners
  weak_span : (c : ℕ) → c < length is.of_weakest.classes.distances
      → IsRoundedSpan r.weakest (slice_index is.of_weakest.classes.distances c) (lo_in is.weakest.spans c) (hi_in is.weakest.spans c)
  weak_span = is.of_weakest.rounded

  strong_span : (c : ℕ) → c < length is.of_weakest.classes.distances
      → IsRoundedSpan r.strongest (slice_index is.of_weakest.classes.distances c) (lo_in is.strongest.spans c) (hi_in is.strongest.spans c)
  strong_span = strong_spans laws layout r is.weakest is.strongest is.of_weakest is.of_strongest

  pair_classes : q.pair_classes ≡ is.of_weakest.classes.pair_classes
  pair_classes = ap (λ (p : Problem). p.pair_classes) is.rest ∙ is.of_weakest.pair_classes

  near_classes : q.near_classes ≡ is.of_weakest.classes.near_classes
  near_classes = ap (λ (p : Problem). p.near_classes) is.rest ∙ is.of_weakest.near_classes

  sites : q.sites ≡ is.of_weakest.classes.sites
  sites = ap (λ (p : Problem). p.sites) is.rest ∙ is.of_weakest.sites ∙ sym is.of_weakest.of_layout.sites

  fixes : length q.fixed_charges ≡ is.of_weakest.classes.fixes
  fixes = ap (λ (p : Problem). length p.fixed_charges) is.rest ∙ ap length is.of_weakest.fixed ∙ length-map layout.fixes (λ f. f.charge) ∙ sym is.of_weakest.of_layout.fixes

  pub pair_class : (i j : ℕ) → class_of q i j ≡ class_between is.of_weakest.classes i j
  unfolding class_of class_between
  pair_class i j = ap₂ (λ (xs : List ℕ) (n : ℕ). slice_index xs (pairs_before n (min i j) + (max i j - suc (min i j)))) pair_classes sites

  pub near_class : (i a : ℕ) → near_class_of q i a ≡ class_near is.of_weakest.classes i a
  unfolding near_class_of class_near
  near_class i a = ap₂ (λ (xs : List ℕ) (n : ℕ). slice_index xs (i * n + a)) near_classes fixes

  -- a class with the distance of another is this one
  same_class : (c other d : ℕ) → c < length is.of_weakest.classes.distances → slice_get is.of_weakest.classes.distances other ≡ Some d → slice_index is.of_weakest.classes.distances c ≡ d → other ≡ c
  same_class c other d less found same =
      (laws.equal_classes is.of_weakest.classes other c d (slice_index is.of_weakest.classes.distances c) whole found (slice_get-get_or is.of_weakest.classes.distances c 0 less)).1 (sym same)

  -- each class has a number of its distance
  number_of : (coulomb : ℕ) (point : Point) (t : Table) → IsTableAt layout coulomb point q t
      → (c : ℕ) → c < length is.of_weakest.classes.distances → IsPotentialAt coulomb point (slice_index is.of_weakest.classes.distances c) t.scale (t.potential c)
  number_of coulomb point t at c less = by (All-get_or (IsBetween layout) is.of_weakest.classes.distances c 0 less is.of_weakest.of_layout.used)
    where
      by : IsBetween layout (slice_index is.of_weakest.classes.distances c) → IsPotentialAt coulomb point (slice_index is.of_weakest.classes.distances c) t.scale (t.potential c)
      by (inl (i, j, order, within, same)) =
          let distinct : i ≢ j = λ e. omega (arith, order, e) in
          let found = is.of_weakest.of_layout.pairs i j distinct (omega (arith, order, within)) within in
          let class = pair_class i j ∙ same_class c (class_between is.of_weakest.classes i j) (pair_distance layout i j) less found same in
          let number = subst (λ (k : ℕ). IsPotentialAt coulomb point (pair_distance layout i j) t.scale (t.potential k)) class (at.pairs i j distinct (omega (arith, order, within)) within) in
          subst (λ (d : ℕ). IsPotentialAt coulomb point d t.scale (t.potential c)) (sym same) number
      by (inr (i, a, within, also, same)) =
          let found = is.of_weakest.of_layout.nears i a within also in
          let class = near_class i a ∙ same_class c (class_near is.of_weakest.classes i a) (near_distance layout i a) less found same in
          let number = subst (λ (k : ℕ). IsPotentialAt coulomb point (near_distance layout i a) t.scale (t.potential k)) class (at.nears i a within also) in
          subst (λ (d : ℕ). IsPotentialAt coulomb point d t.scale (t.potential c)) (sym same) number

  pub table_there : (point : Point) → IsInRectangle r point → (t : Table) → IsTableAt layout (coulomb_of r.weakest) point q t → IsTable q t
  table_there point inside t at = record {
    positive = at.positive;
    above = λ c less. let here = subst (λ (n : ℕ). c < n) count less in
        subst (λ (x : ℤ). (pos t.scale *ℤ x) ≤ℤ t.potential c) (sym (lo_is c))
        (above_weakest laws r point inside (slice_index is.of_weakest.classes.distances c) t.scale (t.potential c) (apart c here) (number_of (coulomb_of r.weakest) point t at c here) (lo_in is.weakest.spans c) (hi_in is.weakest.spans c) (weak_span c here));
    below = λ c less. let here = subst (λ (n : ℕ). c < n) count less in
        subst (λ (x : ℤ). t.potential c ≤ℤ (pos t.scale *ℤ x)) (sym (hi_is c))
        (below_strongest laws r point inside (slice_index is.of_weakest.classes.distances c) t.scale (t.potential c) (apart c here) (number_of (coulomb_of r.weakest) point t at c here) (lo_in is.strongest.spans c) (hi_in is.strongest.spans c) (strong_span c here));
  }
