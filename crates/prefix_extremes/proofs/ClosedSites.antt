-- a prefix is open exactly where each site keeps it open
use Rattle.std.proofs.Common.{◌≡◌, ℕ, ◌<◌, ◌≤◌, List, length, Bool, true, false, ◌||◌, ◌⊎◌, inl, inr, refl, arith, sym, ◌∙◌}
use Rattle.std.specs.Prelude.{◌↔◌}
use Rattle.std.proofs.lemmas.Bool.{cases_lt, cases_order, le-ltb}
use Rattle.charge_model.specs.declared.charge.Charge.{Charge}
use Rattle.charge_model.specs.declared.charge.Charge.TheVariants.{Neg, Neutral, Pos}
use Rattle.charge_model.specs.Problem.{Problem}
use Rattle.charge_model.specs.Prefixes.{can_be, IsOpen}
use Rattle.prefix_extremes.specs.Closed.{keeps_open, IsFirstClosed}
use Rattle.prefix_extremes.proofs.Opening.{assigned_keeps}

any_keeps : (p : Problem) (q : List Charge) (k : ℕ) → length q ≤ k → (can_be p q k Neg || can_be p q k Neutral || can_be p q k Pos) ≡ keeps_open p q k
any_keeps p q k g = rw (le-ltb k (length q) g) refl

some_charge : (f : Charge → Bool) (a b c : Bool) → f Neg ≡ a → f Neutral ≡ b → f Pos ≡ c → (a || b || c) ≡ true → (d : Charge) × (f d ≡ true)
some_charge f true b c first second third e = (Neg, first)
some_charge f false true c first second third e = (Neutral, second)
some_charge f false false true first second third e = (Pos, third)
some_charge f false false false first second third e = absurd (cc)

any_charge : (f : Charge → Bool) (d : Charge) (a b c : Bool) → f Neg ≡ a → f Neutral ≡ b → f Pos ≡ c → f d ≡ true → (a || b || c) ≡ true
any_charge f Neg a b c first second third e = rw (sym first ∙ e) refl
any_charge f Neutral true b c first second third e = refl
any_charge f Neutral false b c first second third e = rw (sym second ∙ e) refl
any_charge f Pos true b c first second third e = refl
any_charge f Pos false true c first second third e = refl
any_charge f Pos false false c first second third e = sym third ∙ e

kept : (p : Problem) (q : List Charge) → length q ≤ p.sites → ((k : ℕ) → k < p.sites → keeps_open p q k ≡ true) → IsOpen p q
kept p q short each = record {
  assigned = λ k l. assigned_keeps p q k l ∙ each k (omega (arith, l, short));
  unassigned = λ k g l. some_charge (can_be p q k) (can_be p q k Neg) (can_be p q k Neutral) (can_be p q k Pos) refl refl refl (any_keeps p q k g ∙ each k l);
}

keeps : (p : Problem) (q : List Charge) → IsOpen p q → (k : ℕ) → k < p.sites → keeps_open p q k ≡ true
keeps p q opens k l = by (cases_lt k (length q))
  where
    by : (k < length q) ⊎ (length q ≤ k) → keeps_open p q k ≡ true
    by (inl a) = sym (assigned_keeps p q k a) ∙ opens.assigned k a
    by (inr g) =
        let some = opens.unassigned k g l in
        sym (any_keeps p q k g) ∙ any_charge (can_be p q k) some.0 (can_be p q k Neg) (can_be p q k Neutral) (can_be p q k Pos) refl refl refl some.1

pub open_is_kept : (p : Problem) (q : List Charge) → length q ≤ p.sites → IsOpen p q ↔ ((k : ℕ) → k < p.sites → keeps_open p q k ≡ true)
open_is_kept p q short = (keeps p q, kept p q short)

both_ways : (b : Bool) → b ≡ true → b ≡ false → ⊥
both_ways true e f = cc
both_ways false e f = cc

pub first_closes : (p : Problem) (q : List Charge) (k : ℕ) → IsFirstClosed p q k → IsOpen p q → ⊥
first_closes p q k first opens = both_ways (keeps_open p q k) (keeps p q opens k first.site) first.closed

pub one_first : (p : Problem) (q : List Charge) (j k : ℕ) → IsFirstClosed p q j → IsFirstClosed p q k → j ≡ k
one_first p q j k a b = by (cases_order j k)
  where
    by : (j ≡ k) ⊎ ((j < k) ⊎ (k < j)) → j ≡ k
    by (inl e) = e
    by (inr (inl l)) = absurd (both_ways (keeps_open p q j) (b.before j l) a.closed)
    by (inr (inr g)) = absurd (both_ways (keeps_open p q k) (a.before k g) b.closed)
