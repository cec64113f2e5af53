-- a layout and a rectangle have one problem, which at a rectangle of one point is that of the layout
use Rattle.std.proofs.Common.{◌≡◌, ◌∙◌, ℤ, ◌≤ℤ◌, List, [], ◌∷◌, map, refl, sym, ap, ap₂, subst}
use Rattle.std.proofs.Props.{props}
use Rattle.charge_model.specs.declared.span.Span.{Span}
use Rattle.charge_model.specs.Problem.{Problem}
use Rattle.sidb_layout.specs.Layout.{Arrangement}
use Rattle.model_params.specs.declared.params.Params.{Params}
use Rattle.screened_coulomb.specs.Layouts.{IsProblemOf}
use Rattle.parameter_regions.specs.declared.rectangles.Rectangle.{Rectangle}
use Rattle.parameter_regions.specs.Regions.{IsRegionProblemOf}

one_order : (lo hi : ℤ) (a b : lo ≤ℤ hi) → a ≡ b
one_order lo hi = hlevel props

-- spans with the same ends are the same
same_span : (s t : Span) → s.lo ≡ t.lo → s.hi ≡ t.hi → s ≡ t
same_span s t e f = low t.lo e t.hi f t.in_order
  where
    high : (hi : ℤ) → s.hi ≡ hi → (b : s.lo ≤ℤ hi) → s ≡ record { lo = s.lo; hi = hi; in_order = b }
    high hi f = subst (λ h. (b : s.lo ≤ℤ h) → s ≡ record { lo = s.lo; hi = h; in_order = b }) f (λ b. ap (λ o. record { lo = s.lo; hi = s.hi; in_order = o }) (one_order s.lo s.hi s.in_order b))

    low : (lo : ℤ) → s.lo ≡ lo → (hi : ℤ) → s.hi ≡ hi → (b : lo ≤ℤ hi) → s ≡ record { lo = lo; hi = hi; in_order = b }
    low lo e hi f = subst (λ l. (b : l ≤ℤ hi) → s ≡ record { lo = l; hi = hi; in_order = b }) e (high hi f)

same_spans : (xs ys : List Span) → map (λ (s : Span). s.lo) xs ≡ map (λ (s : Span). s.lo) ys → map (λ (s : Span). s.hi) xs ≡ map (λ (s : Span). s.hi) ys → xs ≡ ys
same_spans [] [] e f = refl
same_spans [] (y ∷ ys) e f = absurd (cc)
same_spans (x ∷ xs) [] e f = absurd (cc)
same_spans (x ∷ xs) (y ∷ ys) e f =
    let lo : x.lo ≡ y.lo = cc in
    let hi : x.hi ≡ y.hi = cc in
    let more : map (λ (s : Span). s.lo) xs ≡ map (λ (s : Span). s.lo) ys = cc in
    let also : map (λ (s : Span). s.hi) xs ≡ map (λ (s : Span). s.hi) ys = cc in
    ap₂ (λ (s : Span) (r : List Span). s ∷ r) (same_span x y lo hi) (same_spans xs ys more also)

-- a problem with the spans of another, and all else of it, is this other
same_problem : (p q : Problem) (a b : Problem) → record p { spans = a.spans } ≡ a → record q { spans = b.spans } ≡ b → a ≡ b → p.spans ≡ q.spans → p ≡ q
same_problem p q a b of_p of_q same spans =
    let rest : record p { spans = b.spans } ≡ record q { spans = b.spans } = ap (λ (c : Problem). record p { spans = c.spans }) (sym same) ∙ of_p ∙ same ∙ sym of_q in
    ap (λ (r : Problem). record r { spans = p.spans }) rest ∙ ap (λ (s : List Span). record q { spans = s }) spans

module _ (one_problem : (layout : Arrangement) (p : Params) (a b : Problem) → IsProblemOf layout p a → IsProblemOf layout p b → a ≡ b) where
  pub one_region : (layout : Arrangement) (r : Rectangle) (p q : Problem) → IsRegionProblemOf layout r p → IsRegionProblemOf layout r q → p ≡ q
  one_region layout r p q is also =
      let weakest = one_problem layout r.weakest is.weakest also.weakest is.of_weakest also.of_weakest in
      let strongest = one_problem layout r.strongest is.strongest also.strongest is.of_strongest also.of_strongest in
      let lo = is.least ∙ ap (λ (a : Problem). map (λ (s : Span). s.lo) a.spans) weakest ∙ sym also.least in
      let hi = is.greatest ∙ ap (λ (a : Problem). map (λ (s : Span). s.hi) a.spans) strongest ∙ sym also.greatest in
      same_problem p q is.weakest also.weakest is.rest also.rest weakest (same_spans p.spans q.spans lo hi)

  -- the problem of one point is that of the layout
  pub problem_of_one_point : (layout : Arrangement) (r : Rectangle) (p q : Problem) → r.weakest ≡ r.strongest → IsRegionProblemOf layout r p → IsProblemOf layout r.weakest q → p ≡ q
  problem_of_one_point layout r p q same is of =
      let weakest = one_problem layout r.weakest is.weakest q is.of_weakest of in
      let strongest = one_problem layout r.strongest is.strongest q is.of_strongest (subst (λ (a : Params). IsProblemOf layout a q) same of) in
      let lo = is.least ∙ ap (λ (a : Problem). map (λ (s : Span). s.lo) a.spans) weakest in
      let hi = is.greatest ∙ ap (λ (a : Problem). map (λ (s : Span). s.hi) a.spans) strongest in
      same_problem p q is.weakest q is.rest refl weakest (same_spans p.spans q.spans lo hi)
