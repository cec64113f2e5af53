-- each layout has a problem over each rectangle
use Rattle.std.proofs.Common.{◌≡◌, ℕ, zero, suc, ◌+◌, ◌<◌, ◌≤◌, ◌≤ℤ◌, List, [], ◌∷◌, ◌++◌, length, refl, subst, arith}
use Rattle.charge_model.specs.declared.span.Span.{Span}
use Rattle.charge_model.specs.Problem.{IsProblem, Problem, hi_in, lo_in}
use Rattle.sidb_layout.specs.Layout.{Arrangement, IsLayout}
use Rattle.model_params.specs.declared.params.Params.{Params}
use Rattle.screened_coulomb.specs.Layouts.{HoldsDistances, IsProblemOf}
use Rattle.parameter_regions.specs.declared.rectangles.Rectangle.{Rectangle}
use Rattle.parameter_regions.specs.Regions.{IsRegionProblemOf}
use Rattle.parameter_regions.proofs.RegionLemmas.{AreLaws}
use Rattle.parameter_regions.proofs.JoinedLemmas.{AreJoinedBelow, all_greatest, all_least, joined_more, joined_problem, joined_valid, same_count, spans_in_order}

-- the first n joined spans
spans_below : (weakest strongest : List Span) → length weakest ≡ length strongest → ((c : ℕ) → c < length weakest → lo_in weakest c ≤ℤ hi_in strongest c)
    → (n : ℕ) → n ≤ length weakest → (spans : List Span) × AreJoinedBelow weakest strongest spans n
spans_below weakest strongest count order zero few = ([], record { least = refl; greatest = refl })
spans_below weakest strongest count order (suc n) few =
    more (spans_below weakest strongest count order n (omega (arith, few)))
  where
    more : ((spans : List Span) × AreJoinedBelow weakest strongest spans n) → (spans : List Span) × AreJoinedBelow weakest strongest spans (suc n)
    more (spans, before) =
        let span : Span = record { lo = lo_in weakest n; hi = hi_in strongest n; in_order = order n (omega (arith, few)) } in
        let next : n + 1 ≡ suc n = omega arith in
        (spans ++ span ∷ [], subst (AreJoinedBelow weakest strongest (spans ++ span ∷ [])) next (joined_more weakest strongest spans span n (omega (arith, few)) (omega (arith, few, count)) refl refl before))

-- a problem of the layout by parameters
abbrev pub HasProblem : Arrangement → Params → Type 0
HasProblem layout p = (q : Problem) × IsProblemOf layout p q × HoldsDistances layout p q × IsProblem q

pub region_exists : AreLaws → ((layout : Arrangement) (p : Params) → IsLayout layout → HasProblem layout p)
    → (layout : Arrangement) (r : Rectangle) → IsLayout layout → (q : Problem) × IsRegionProblemOf layout r q × IsProblem q
region_exists laws has layout r valid = by (has layout r.weakest valid) (has layout r.strongest valid)
  where
    by : HasProblem layout r.weakest → HasProblem layout r.strongest → (q : Problem) × IsRegionProblemOf layout r q × IsProblem q
    by (weakest, weak, holds, is) (strongest, strong, also_holds, also) =
        let count = same_count laws layout r weakest strongest weak strong in
        let (spans, joined) = spans_below weakest.spans strongest.spans count (spans_in_order laws layout r weakest strongest weak strong) (length weakest.spans) (omega arith) in
        let least = all_least weakest.spans strongest.spans spans (length weakest.spans) refl joined in
        let greatest = all_greatest weakest.spans strongest.spans spans (length weakest.spans) count joined in
        (record weakest { spans = spans }, joined_problem laws layout r weakest strongest weak strong is also spans least greatest, joined_valid laws layout r weakest strongest weak strong is also spans least greatest)
