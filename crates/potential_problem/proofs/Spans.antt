-- the span of a class, read from its list
use Rattle.std.proofs.Common.{◌≡◌, ℕ, ◌<◌, List, length, get_or, ℤ, pos, ◌≤ℤ◌, ap, ◌∙◌, sym, subst}
use Rattle.std.proofs.lemmas.List.{get_or-map}
use Rattle.charge_model.specs.declared.span.Span.{Span}
use Rattle.charge_model.specs.declared.TheConstants.{MAX_POTENTIAL}
use Rattle.charge_model.specs.Problem.{AreSpans, lo_in, hi_in}

-- a span that stands in the list has the ranges of the list
pub span_within : (spans : List Span) (c : ℕ) (s : Span) → AreSpans spans → c < length spans → s ≡ get_or spans c s → (pos 0 ≤ℤ s.lo) × (s.hi ≤ℤ MAX_POTENTIAL)
span_within spans c s are l is =
    let lo : lo_in spans c ≡ s.lo = get_or-map (λ (x : Span). x.lo) spans c s (pos 0) l ∙ ap (λ (x : Span). x.lo) (sym is) in
    let hi : hi_in spans c ≡ s.hi = get_or-map (λ (x : Span). x.hi) spans c s (pos 0) l ∙ ap (λ (x : Span). x.hi) (sym is) in
    (subst (λ (x : ℤ). pos 0 ≤ℤ x) lo (are c l).0, subst (λ (x : ℤ). x ≤ℤ MAX_POTENTIAL) hi (are c l).2)
