-- each layout has a problem by each parameters
use Rattle.std.proofs.Common.{◌≡◌, refl, subst, ℕ, zero, suc, ◌+◌, ◌<◌, ◌≤◌, ℤ, neg_ℤ, ◌-ℤ◌, List, [], ◌∷◌, ◌++◌, map, length, slice_index, arith}
use Rattle.std.proofs.lemmas.List.Elements.{All-get_or}
use Rattle.charge_model.specs.declared.span.Span.{Span}
use Rattle.charge_model.specs.Problem.{Problem, IsProblem}
use Rattle.sidb_layout.specs.Layout.{Arrangement, IsLayout}
use Rattle.sidb_lattice.specs.Classes.{AreClasses, Classing, IsDistance}
use Rattle.model_params.specs.declared.params.Params.{Params}
use Rattle.screened_coulomb.specs.Layouts.{AreClassSpans, AreSpansBelow, HoldsDistances, IsClassSpan, IsProblemOf}
use Rattle.screened_coulomb.proofs.LayoutLemmas.{AreParts, parts_hold, parts_problem, parts_valid, span_more}
use Rattle.screened_coulomb.proofs.SpanExists.{AreLaws, some_span}

-- no spans for no classes
no_spans : (p : Params) (distances : List ℕ) → AreSpansBelow p distances [] 0
no_spans p distances = record { whole = refl; each = λ c less. absurd (omega (arith, less)) }

-- the spans of the first n classes
spans_below : AreLaws → (p : Params) (distances : List ℕ) → ((c : ℕ) → c < length distances → 50625 ≤ slice_index distances c)
    → (n : ℕ) → n ≤ length distances → (spans : List Span) × AreSpansBelow p distances spans n
spans_below laws p distances apart zero few = ([], no_spans p distances)
spans_below laws p distances apart (suc n) few =
    more (spans_below laws p distances apart n (omega (arith, few))) (some_span laws p (slice_index distances n) (apart n (omega (arith, few))))
  where
    more : ((spans : List Span) × AreSpansBelow p distances spans n) → ((lo : ℤ) × (hi : ℤ) × IsClassSpan p (slice_index distances n) lo hi)
        → (spans : List Span) × AreSpansBelow p distances spans (suc n)
    more (spans, before) (lo, hi, is) =
        let span : Span = record { lo = lo; hi = hi; in_order = is.in_order } in
        let next : n + 1 ≡ suc n = omega arith in
        (spans ++ span ∷ [], subst (AreSpansBelow p distances (spans ++ span ∷ [])) next (span_more p distances spans n span before is))

-- the problem with these classes and spans
assembled : Arrangement → Params → Classing → List Span → Problem
assembled layout p classes spans = record {
  sites = length layout.sites;
  base = p.base;
  mu_minus = neg_ℤ p.depth;
  mu_plus = neg_ℤ p.depth -ℤ p.gap;
  fixed_charges = map (λ f. f.charge) layout.fixes;
  pair_classes = classes.pair_classes;
  near_classes = classes.near_classes;
  spans = spans;
}

-- its parts are those of the layout
parts : (layout : Arrangement) (p : Params) (classes : Classing) (spans : List Span) → IsLayout layout → AreClasses layout classes → AreClassSpans p classes.distances spans
    → AreParts layout p classes (assembled layout p classes spans)
unfolding assembled
parts layout p classes spans valid of_layout are = record {
  valid = valid;
  of_layout = of_layout;
  sites = refl;
  base = refl;
  mu_minus = refl;
  mu_plus = refl;
  fixed = refl;
  pair_classes = refl;
  near_classes = refl;
  spans = are;
}

-- a problem of the layout
abbrev pub HasProblem : Arrangement → Params → Type 0
HasProblem layout p = (q : Problem) × IsProblemOf layout p q × HoldsDistances layout p q × IsProblem q

-- the layout has such a problem
pub some_problem : AreLaws → ((layout : Arrangement) → IsLayout layout → (c : Classing) × AreClasses layout c) → (layout : Arrangement) (p : Params) → IsLayout layout → HasProblem layout p
some_problem laws some_classes layout p valid = by (some_classes layout valid)
  where
    by : ((c : Classing) × AreClasses layout c) → HasProblem layout p
    by (classes, of_layout) = with (spans_below laws p classes.distances apart (length classes.distances) (omega arith))
      where
        apart : (c : ℕ) → c < length classes.distances → 50625 ≤ slice_index classes.distances c
        apart c less = let is = All-get_or IsDistance classes.distances c 0 less of_layout.whole.in_range in is.least

        with : ((spans : List Span) × AreClassSpans p classes.distances spans) → HasProblem layout p
        with (spans, are) =
            let problem = assembled layout p classes spans in
            let made = parts layout p classes spans valid of_layout are in
            (problem, parts_problem layout p classes problem made, parts_hold layout p classes problem made, parts_valid layout p classes problem made)
