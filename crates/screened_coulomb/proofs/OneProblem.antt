-- a layout and parameters have one problem
use Rattle.std.proofs.Common.{◌≡◌, ◌∙◌, ℕ, zero, suc, ◌<◌, ℤ, ◌-ℤ◌, ◌≤ℤ◌, List, [], ◌∷◌, length, slice_index, refl, sym, ap, subst, arith}
use Rattle.std.proofs.Props.{props}
use Rattle.charge_model.specs.declared.span.Span.{Span}
use Rattle.charge_model.specs.Problem.{Problem, lo_in, hi_in}
use Rattle.sidb_layout.specs.Layout.{Arrangement}
use Rattle.sidb_lattice.specs.Classes.{AreClasses, Classing}
use Rattle.model_params.specs.declared.params.Params.{Params}
use Rattle.screened_coulomb.specs.Rounding.{IsRoundedSpan}
use Rattle.screened_coulomb.specs.Layouts.{IsProblemOf}
use Rattle.screened_coulomb.proofs.RuleLemmas.{one_span}

-- spans with the same ends are the same
one_order : (lo hi : ℤ) (a b : lo ≤ℤ hi) → a ≡ b
one_order lo hi = hlevel props

same_span : (s t : Span) → s.lo ≡ t.lo → s.hi ≡ t.hi → s ≡ t
same_span s t e f = low t.lo e t.hi f t.in_order
  where
    high : (hi : ℤ) → s.hi ≡ hi → (b : s.lo ≤ℤ hi) → s ≡ record { lo = s.lo; hi = hi; in_order = b }
    high hi f = subst (λ h. (b : s.lo ≤ℤ h) → s ≡ record { lo = s.lo; hi = h; in_order = b }) f (λ b. ap (λ o. record { lo = s.lo; hi = s.hi; in_order = o }) (one_order s.lo s.hi s.in_order b))

    low : (lo : ℤ) → s.lo ≡ lo → (hi : ℤ) → s.hi ≡ hi → (b : lo ≤ℤ hi) → s ≡ record { lo = lo; hi = hi; in_order = b }
    low lo e hi f = subst (λ l. (b : l ≤ℤ hi) → s ≡ record { lo = l; hi = hi; in_order = b }) e (high hi f)

same_spans : (xs ys : List Span) → length xs ≡ length ys → ((c : ℕ) → c < length xs → (lo_in xs c ≡ lo_in ys c) × (hi_in xs c ≡ hi_in ys c)) → xs ≡ ys
same_spans [] [] e each = refl
same_spans [] (y ∷ ys) e each = absurd (omega (arith, e))
same_spans (x ∷ xs) [] e each = absurd (omega (arith, e))
same_spans (x ∷ xs) (y ∷ ys) e each =
    let first = each zero (omega arith) in
    ap (λ s. s ∷ xs) (same_span x y first.0 first.1)
    ∙ ap (λ r. y ∷ r) (same_spans xs ys (omega (arith, e)) (λ c less. each (suc c) (omega (arith, less))))

rebuilt : (a b : Problem) → a.sites ≡ b.sites → a.base ≡ b.base → a.mu_minus ≡ b.mu_minus → a.mu_plus ≡ b.mu_plus → a.fixed_charges ≡ b.fixed_charges → a.pair_classes ≡ b.pair_classes → a.near_classes ≡ b.near_classes → a.spans ≡ b.spans → a ≡ b
rebuilt a b sites base minus plus fixed pairs nears spans =
    ap (λ x. record a { sites = x }) sites
    ∙ ap (λ x. record a { sites = b.sites; base = x }) base
    ∙ ap (λ x. record a { sites = b.sites; base = b.base; mu_minus = x }) minus
    ∙ ap (λ x. record a { sites = b.sites; base = b.base; mu_minus = b.mu_minus; mu_plus = x }) plus
    ∙ ap (λ x. record b { fixed_charges = x; pair_classes = a.pair_classes; near_classes = a.near_classes; spans = a.spans }) fixed
    ∙ ap (λ x. record b { pair_classes = x; near_classes = a.near_classes; spans = a.spans }) pairs
    ∙ ap (λ x. record b { near_classes = x; spans = a.spans }) nears
    ∙ ap (λ x. record b { spans = x }) spans

pub one_problem : ((p : Arrangement) (c e : Classing) → AreClasses p c → AreClasses p e → c ≡ e)
    → (layout : Arrangement) (p : Params) (a b : Problem) → IsProblemOf layout p a → IsProblemOf layout p b → a ≡ b
one_problem one_classing layout p a b is also =
    let classes = one_classing layout is.classes also.classes is.of_layout also.of_layout in
    let minus : a.mu_minus ≡ b.mu_minus = is.mu_minus ∙ sym also.mu_minus in
    let count : length a.spans ≡ length b.spans = is.spans ∙ ap (λ c. length c.distances) classes ∙ sym also.spans in
    let spans = same_spans a.spans b.spans count (λ c less.
    let within : c < length is.classes.distances = omega (arith, less, is.spans) in
    let within_too : c < length also.classes.distances = omega (arith, less, count, also.spans) in
    let here : IsRoundedSpan p (slice_index also.classes.distances c) (lo_in a.spans c) (hi_in a.spans c) =
    subst (λ (k : Classing). IsRoundedSpan p (slice_index k.distances c) (lo_in a.spans c) (hi_in a.spans c)) classes (is.rounded c within) in
    one_span p (slice_index also.classes.distances c) (lo_in a.spans c) (hi_in a.spans c) (lo_in b.spans c) (hi_in b.spans c) here (also.rounded c within_too)) in
    rebuilt a b (is.sites ∙ sym also.sites) (is.base ∙ sym also.base) minus (is.mu_plus ∙ ap (λ m. m -ℤ p.gap) minus ∙ sym also.mu_plus) (is.fixed ∙ sym also.fixed)
    (is.pair_classes ∙ ap (λ c. c.pair_classes) classes ∙ sym also.pair_classes)
    (is.near_classes ∙ ap (λ c. c.near_classes) classes ∙ sym also.near_classes)
    spans
