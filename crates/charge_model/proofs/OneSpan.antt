-- a span is known by its ends, and a quantity has one least and one greatest value
use Rattle.std.proofs.Common.{◌≡◌, ℕ, ℤ, pos, ◌*ℤ◌, ◌≤ℤ◌, ap, subst, arith}
use Rattle.std.proofs.Math.Dec.{T_prop}
use Rattle.std.proofs.lemmas.Int.{ints}
use Rattle.charge_model.specs.declared.span.Span.{Span}
use Rattle.charge_model.specs.Problem.{Problem, Table, IsLeast, IsGreatest}

same_order : (a b : ℤ) (x y : a ≤ℤ b) → x ≡ y
same_order a b x y = ap (λ z. record { le = z }) (T_prop _ x.le y.le)

pub same_span : (s t : Span) → s.lo ≡ t.lo → s.hi ≡ t.hi → s ≡ t
same_span s t e f = lows t.lo e t.hi f t.in_order
  where
    highs : (v : ℤ) → s.hi ≡ v → (y : s.lo ≤ℤ v) → s ≡ record { lo = s.lo; hi = v; in_order = y }
    highs v f = subst (λ v. (y : s.lo ≤ℤ v) → s ≡ record { lo = s.lo; hi = v; in_order = y }) f
        (λ y. ap (λ z. record { lo = s.lo; hi = s.hi; in_order = z }) (same_order s.lo s.hi s.in_order y))

    lows : (w : ℤ) → s.lo ≡ w → (v : ℤ) → s.hi ≡ v → (y : w ≤ℤ v) → s ≡ record { lo = w; hi = v; in_order = y }
    lows w e = subst (λ w. (v : ℤ) → s.hi ≡ v → (y : w ≤ℤ v) → s ≡ record { lo = w; hi = v; in_order = y }) e highs

pub one_least : (p : Problem) (quantity : Table → ℤ) (a b : ℤ) → IsLeast p quantity a → IsLeast p quantity b → a ≡ b
one_least p quantity a b least other =
    let up = other.bounds least.reached.0 least.reached.1 in
    let down = least.bounds other.reached.0 other.reached.1 in
    by a b least.reached.0.scale other.reached.0.scale (quantity least.reached.0) (quantity other.reached.0) least.reached.2.0 other.reached.2.0 least.reached.2.1 other.reached.2.1 up down
  where
    by : (a b : ℤ) (s r : ℕ) (x y : ℤ) → s ≡ 1 → r ≡ 1 → x ≡ a → y ≡ b → (pos s *ℤ b) ≤ℤ x → (pos r *ℤ a) ≤ℤ y → a ≡ b
    by a b s r x y one two e f up down =
        let first : (pos 1 *ℤ b) ≤ℤ x = subst (λ z. (pos z *ℤ b) ≤ℤ x) one up in
        let second : (pos 1 *ℤ a) ≤ℤ y = subst (λ z. (pos z *ℤ a) ≤ℤ y) two down in omega (arith, ints, first, second, e, f)

pub one_greatest : (p : Problem) (quantity : Table → ℤ) (a b : ℤ) → IsGreatest p quantity a → IsGreatest p quantity b → a ≡ b
one_greatest p quantity a b greatest other =
    let up = other.bounds greatest.reached.0 greatest.reached.1 in
    let down = greatest.bounds other.reached.0 other.reached.1 in
    by a b greatest.reached.0.scale other.reached.0.scale (quantity greatest.reached.0) (quantity other.reached.0) greatest.reached.2.0 other.reached.2.0 greatest.reached.2.1 other.reached.2.1 up down
  where
    by : (a b : ℤ) (s r : ℕ) (x y : ℤ) → s ≡ 1 → r ≡ 1 → x ≡ a → y ≡ b → x ≤ℤ (pos s *ℤ b) → y ≤ℤ (pos r *ℤ a) → a ≡ b
    by a b s r x y one two e f up down =
        let first : x ≤ℤ (pos 1 *ℤ b) = subst (λ z. x ≤ℤ (pos z *ℤ b)) one up in
        let second : y ≤ℤ (pos 1 *ℤ a) = subst (λ z. y ≤ℤ (pos z *ℤ a)) two down in omega (arith, ints, first, second, e, f)
