-- the problem of a layout, from its parts
use Rattle.std.proofs.Common.{◌≡◌, ◌∙◌, ℕ, suc, ◌+◌, ◌-◌, ◌*◌, ◌<◌, ◌≤◌, min, max, ℤ, pos, neg_ℤ, ◌-ℤ◌, ◌≤ℤ◌, ◌⊎◌, inl, inr, List, [], ◌∷◌, ◌++◌, map, take, length, slice_index, slice_get, slice_index_or, Some, unsigned_abs, sym, ap, ap₂, subst, arith}
use Rattle.std.proofs.lemmas.Int.{ints}
use Rattle.std.proofs.lemmas.Bool.{cases_lt, cases_eq}
use Rattle.std.proofs.lemmas.List.{get_or_append_left, get_or_push, length-map, map-append, take_more}
use Rattle.std.proofs.Common.{length-append}
use Rattle.std.proofs.lemmas.List.Elements.{All-map, All-weaker}
use Rattle.std.proofs.lemmas.Option.{slice_get_within, get_or_from_slice_get}
use Rattle.charge_model.specs.declared.TheConstants.{MAX_POTENTIAL}
use Rattle.charge_model.specs.declared.span.Span.{Span}
use Rattle.charge_model.specs.Problem.{Problem, IsProblem, IsFixedCharge, class_of, near_class_of, pairs_before, lo_in, hi_in}
use Rattle.sidb_layout.specs.declared.site.Fix.{Fix}
use Rattle.sidb_layout.specs.Site.{IsFixInRange}
use Rattle.sidb_layout.specs.Layout.{Arrangement, IsLayout}
use Rattle.sidb_lattice.specs.Classes.{AreClasses, Classing, class_between, class_near, near_distance, pair_distance}
use Rattle.model_params.specs.declared.params.Params.{Params}
use Rattle.screened_coulomb.specs.Potential.{HoldsDistance}
use Rattle.screened_coulomb.specs.Rounding.{IsRoundedSpan}
use Rattle.screened_coulomb.specs.Layouts.{AreClassSpans, AreSpansBelow, HoldsAt, HoldsDistances, IsClassSpan, IsProblemOf}

abbrev charge_of : Fix → ℤ
charge_of f = f.charge

-- one more fixed charge
pub charge_more : (fixes : List Fix) (a : ℕ) (f : Fix) (charges : List ℤ) → charges ≡ map (λ f. f.charge) (take a fixes) → slice_get fixes a ≡ Some f
    → charges ++ f.charge ∷ [] ≡ map (λ f. f.charge) (take (a + 1) fixes)
charge_more fixes a f charges h found =
    let within = slice_get_within fixes a f found in
    let more = take_more fixes a f within in
    let last = get_or_from_slice_get fixes a f f found in
    let appended = map-append charge_of (take a fixes) (f ∷ []) in
    ap (λ xs. xs ++ f.charge ∷ []) h ∙ sym appended ∙ ap (map charge_of) (ap (λ x. take a fixes ++ x ∷ []) (sym last) ∙ sym more)

-- the ends of a class after one more span
end_before : (end : Span → ℤ) (spans : List Span) (s : Span) (c : ℕ) → c < length spans
    → slice_index_or (map end (spans ++ s ∷ [])) c (pos 0) ≡ slice_index_or (map end spans) c (pos 0)
end_before end spans s c within =
    rw (map-append end spans (s ∷ [])) (get_or_append_left (map end spans) (end s ∷ []) (pos 0) c (omega (arith, length-map spans end)))

end_last : (end : Span → ℤ) (spans : List Span) (s : Span) (c : ℕ) → length spans ≡ c
    → slice_index_or (map end (spans ++ s ∷ [])) c (pos 0) ≡ end s
end_last end spans s c last =
    rw (map-append end spans (s ∷ [])) (get_or_push (map end spans) (end s) (pos 0) c (length-map spans end ∙ last))

moved : (p : Params) (d : ℕ) (lo lo' hi hi' : ℤ) → lo ≡ lo' → hi ≡ hi' → IsClassSpan p d lo' hi' → IsClassSpan p d lo hi
moved p d lo lo' hi hi' low high is = rw (low, high) is

pub span_more : (p : Params) (distances : List ℕ) (spans : List Span) (n : ℕ) (s : Span) → AreSpansBelow p distances spans n → IsClassSpan p (slice_index distances n) s.lo s.hi
    → AreSpansBelow p distances (spans ++ s ∷ []) (n + 1)
span_more p distances spans n s before here = record {
  whole = omega (arith, length-append spans (s ∷ []), before.whole);
  each = λ c less. each c less (cases_lt c n);
}
  where
    each : (c : ℕ) → c < n + 1 → (c < n) ⊎ (n ≤ c) → IsClassSpan p (slice_index distances c) (lo_in (spans ++ s ∷ []) c) (hi_in (spans ++ s ∷ []) c)
    each c less (inl below) =
        let within : c < length spans = omega (arith, before.whole) in
        moved p (slice_index distances c) (lo_in (spans ++ s ∷ []) c) (lo_in spans c) (hi_in (spans ++ s ∷ []) c) (hi_in spans c)
        (end_before (λ s. s.lo) spans s c within) (end_before (λ s. s.hi) spans s c within) (before.each c below)
    each c less (inr above) =
        let same : c ≡ n = omega arith in
        let last : length spans ≡ c = omega (arith, before.whole) in
        moved p (slice_index distances c) (lo_in (spans ++ s ∷ []) c) s.lo (hi_in (spans ++ s ∷ []) c) s.hi
        (end_last (λ s. s.lo) spans s c last) (end_last (λ s. s.hi) spans s c last) (rw same here)

-- the span of a squared distance is that of its class
pub class_span : (p : Params) (d : ℤ) (n : ℕ) (s : Span) → d ≡ pos n → IsRoundedSpan p (unsigned_abs d) s.lo s.hi → HoldsDistance p (unsigned_abs d) s.lo s.hi → s.hi ≤ℤ MAX_POTENTIAL
    → IsClassSpan p n s.lo s.hi
class_span p d n s is rounded holds within = record {
  rounded = rw is at rounded;
  holds = rw is at holds;
  from_zero = omega (arith, ints, rounded.lo_is);
  in_order = s.in_order;
  within = within;
}

-- the parts of a problem, as the calls give them
pub record AreParts (layout : Arrangement) (p : Params) (classes : Classing) (problem : Problem) : Type 0 where
  pub valid : IsLayout layout
  pub of_layout : AreClasses layout classes
  pub sites : problem.sites ≡ length layout.sites
  pub base : problem.base ≡ p.base
  pub mu_minus : problem.mu_minus ≡ neg_ℤ p.depth
  pub mu_plus : problem.mu_plus ≡ neg_ℤ p.depth -ℤ p.gap
  pub fixed : problem.fixed_charges ≡ map (λ f. f.charge) layout.fixes
  pub pair_classes : problem.pair_classes ≡ classes.pair_classes
  pub near_classes : problem.near_classes ≡ classes.near_classes
  pub spans : AreClassSpans p classes.distances problem.spans

module _ (layout : Arrangement) (p : Params) (classes : Classing) (problem : Problem) (parts : AreParts layout p classes problem) where
  sites_are : classes.sites ≡ problem.sites
  sites_are = parts.of_layout.sites ∙ sym parts.sites

  fixes_are : classes.fixes ≡ length problem.fixed_charges
  fixes_are = parts.of_layout.fixes ∙ sym (ap length parts.fixed ∙ length-map layout.fixes charge_of)

  pub parts_valid : IsProblem problem
  parts_valid =
      let whole = parts.of_layout.whole in
      let pairs = ap (λ (n : ℕ). pairs_before n n) sites_are in
      let nears = ap₂ (λ (n m : ℕ). n * m) sites_are fixes_are in
      record {
        few_sites = omega (arith, sites_are, whole.few_sites);
        base_2_or_3 = base (cases_eq problem.base 2);
        few_fixed = omega (arith, fixes_are, whole.few_fixes);
        fixed = rw parts.fixed (All-map IsFixedCharge charge_of layout.fixes (All-weaker IsFixInRange (λ f. IsFixedCharge f.charge) (λ f is. is.charge) layout.fixes parts.valid.fixes_in_range));
        class_per_pair = ap length parts.pair_classes ∙ whole.class_per_pair ∙ pairs;
        class_per_near = ap length parts.near_classes ∙ whole.class_per_near ∙ nears;
        classes = rw (parts.pair_classes, parts.spans.whole) whole.classes;
        near = rw (parts.near_classes, parts.spans.whole) whole.near;
        few_classes = omega (arith, parts.spans.whole, whole.few_classes, pairs, nears);
        spans = λ c less. let is = parts.spans.each c (omega (arith, parts.spans.whole)) in (is.from_zero, is.in_order, is.within);
        levels = omega (arith, ints, parts.mu_plus, parts.mu_minus, p.in_range.gap_within.from);
        least_level = omega (arith, ints, parts.mu_plus, p.in_range.depth_within.to, p.in_range.gap_within.to);
        greatest_level = omega (arith, ints, parts.mu_minus, p.in_range.depth_within.from);
      }
    where
      base : (problem.base ≡ 2) ⊎ ((problem.base ≡ 2) → ⊥) → (problem.base ≡ 2) ⊎ (problem.base ≡ 3)
      base (inl two) = inl two
      base (inr other) = inr (omega (arith, other, parts.base, p.in_range.base_from, p.in_range.base_to))

  pub parts_problem : IsProblemOf layout p problem
  parts_problem = record {
    sites = parts.sites;
    base = parts.base;
    mu_minus = parts.mu_minus;
    mu_plus = rw parts.mu_minus parts.mu_plus;
    fixed = parts.fixed;
    classes = classes;
    of_layout = parts.of_layout;
    pair_classes = parts.pair_classes;
    near_classes = parts.near_classes;
    spans = parts.spans.whole;
    rounded = λ c less. (parts.spans.each c less).rounded;
  }

  -- the span of the class of a squared distance holds it
  holds_at : (class other d : ℕ) → other ≡ class → slice_get classes.distances class ≡ Some d → HoldsAt p problem other d
  holds_at class other d same found =
      let within = slice_get_within classes.distances class d found in
      let value = get_or_from_slice_get classes.distances class d 0 found in
      let holds = subst (λ (n : ℕ). HoldsAt p problem class n) value (parts.spans.each class within).holds in
      subst (λ (c : ℕ). HoldsAt p problem c d) (sym same) holds

  pair_class_is : (i j : ℕ) → class_of problem i j ≡ class_between classes i j
  unfolding class_of class_between
  pair_class_is i j = ap₂ (λ (xs : List ℕ) (n : ℕ). slice_index xs (pairs_before n (min i j) + (max i j - suc (min i j)))) parts.pair_classes (sym sites_are)

  near_class_is : (i a : ℕ) → near_class_of problem i a ≡ class_near classes i a
  unfolding near_class_of class_near
  near_class_is i a = ap₂ (λ (xs : List ℕ) (n : ℕ). slice_index xs (i * n + a)) parts.near_classes (sym fixes_are)

  pub parts_hold : HoldsDistances layout p problem
  parts_hold = record {
    pairs = λ i j distinct i_within j_within.
        holds_at (class_between classes i j) (class_of problem i j) (pair_distance layout i j) (pair_class_is i j) (parts.of_layout.pairs i j distinct i_within j_within);
    nears = λ i a i_within a_within.
        holds_at (class_near classes i a) (near_class_of problem i a) (near_distance layout i a) (near_class_is i a) (parts.of_layout.nears i a i_within a_within);
  }
