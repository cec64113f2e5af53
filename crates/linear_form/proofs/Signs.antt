-- what the least and the greatest value of a quantity say of its sign
use Rattle.std.proofs.Common.{◌≡◌, ℕ, ◌≤◌, ℤ, pos, negsuc, ◌*ℤ◌, ◌≤ℤ◌, ◌<ℤ◌, sym, ◌∙◌, subst, arith}
use Rattle.std.proofs.lemmas.Int.{ints}
use Rattle.charge_model.specs.Problem.{Problem, Table, UnderEveryTable, UnderSomeTable, IsLeast, IsGreatest}
use Rattle.charge_model.proofs.Sums.{mul-le}

below_zero : (s : ℕ) (g q : ℤ) → 1 ≤ s → g <ℤ pos 0 → q ≤ℤ (pos s *ℤ g) → q <ℤ pos 0
below_zero s (pos n) q one h le = absurd (omega (arith, ints, h))
below_zero s (negsuc n) q one h le = let scaled = mul-le (negsuc n) (negsuc 0) s (omega (arith, ints)) in omega (arith, ints, le, scaled, one)

pub by_least : (p : Problem) (quantity : Table → ℤ) (least : ℤ) → IsLeast p quantity least
    → (pos 0 ≤ℤ least → UnderEveryTable p (λ t. pos 0 ≤ℤ quantity t)) × (least <ℤ pos 0 → UnderSomeTable p (λ t. quantity t <ℤ pos 0))
by_least p quantity least is = (
  λ low t it. let bound = is.bounds t it in let scaled = mul-le (pos 0) least t.scale low in omega (arith, ints, bound, scaled),
  λ low. let r = is.reached in (r.0, r.1, let e = r.2.1 in omega (arith, ints, e, low)),
)

pub by_greatest : (p : Problem) (quantity : Table → ℤ) (greatest : ℤ) → IsGreatest p quantity greatest
    → (pos 0 ≤ℤ greatest → UnderSomeTable p (λ t. pos 0 ≤ℤ quantity t)) × (greatest <ℤ pos 0 → UnderEveryTable p (λ t. quantity t <ℤ pos 0))
by_greatest p quantity greatest is = (
  λ high. let r = is.reached in (r.0, r.1, let e = r.2.1 in omega (arith, ints, e, high)),
  λ high t it. below_zero t.scale greatest (quantity t) it.positive high (is.bounds t it),
)

pub same_least : (p : Problem) (q r : Table → ℤ) (least : ℤ) → ((t : Table) → q t ≡ r t) → IsLeast p q least → IsLeast p r least
same_least p q r least same is = record {
  bounds = λ t it. subst (λ z. (pos t.scale *ℤ least) ≤ℤ z) (same t) (is.bounds t it);
  reached = let at = is.reached in (at.0, at.1, (at.2.0, sym (same at.0) ∙ at.2.1));
}

pub same_greatest : (p : Problem) (q r : Table → ℤ) (greatest : ℤ) → ((t : Table) → q t ≡ r t) → IsGreatest p q greatest → IsGreatest p r greatest
same_greatest p q r greatest same is = record {
  bounds = λ t it. subst (λ z. z ≤ℤ (pos t.scale *ℤ greatest)) (same t) (is.bounds t it);
  reached = let at = is.reached in (at.0, at.1, (at.2.0, sym (same at.0) ∙ at.2.1));
}
