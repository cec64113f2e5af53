-- which sites keep a prefix open
use Rattle.std.proofs.Common.{◌≡◌, ◌≢◌, ℕ, zero, suc, ◌<◌, ◌≤◌, List, length, Bool, true, false, ◌&&◌, ◌⊎◌, inl, inr, refl, arith, sym, ap, ◌∙◌}
use Rattle.std.proofs.lemmas.Bool.{cases_eq, lt-ltb, le-ltb}
use Rattle.charge_model.specs.declared.charge.Charge.{Charge}
use Rattle.charge_model.specs.declared.charge.Charge.TheVariants.{Neg, Neutral, Pos}
use Rattle.charge_model.specs.Charges.{charge_at}
use Rattle.charge_model.specs.Problem.{Problem}
use Rattle.charge_model.specs.Prefixes.{can_be, least_potential, greatest_potential}
use Rattle.charge_model.specs.Tree.{all_below, is_open}
use Rattle.prefix_extremes.specs.Closed.{keeps_open, IsFirstClosed}
use Rattle.prefix_extremes.specs.Parts.{allows, allows_some}

-- a site can have the charges that the extremes of its potential allow
pub can_allows : (p : Problem) (q : List Charge) (k : ℕ) (c : Charge) → allows p c (least_potential p q k) (greatest_potential p q k) ≡ can_be p q k c
unfolding can_be
can_allows p q k Neg = refl
can_allows p q k Neutral = refl
can_allows p q k Pos = refl

pub assigned_keeps : (p : Problem) (q : List Charge) (k : ℕ) → k < length q → can_be p q k (charge_at q k) ≡ keeps_open p q k
assigned_keeps p q k l = rw (lt-ltb k (length q) l) refl

pub some_allows : (p : Problem) (q : List Charge) (k : ℕ) → length q ≤ k → allows_some p (least_potential p q k) (greatest_potential p q k) ≡ keeps_open p q k
unfolding can_be
some_allows p q k g = rw (le-ltb k (length q) g) refl

-- each site below n keeps the prefix open
abbrev pub OpenBelow : Problem → List Charge → ℕ → Type 0
OpenBelow p q n = (j : ℕ) → j < n → keeps_open p q j ≡ true

pub open_more : (p : Problem) (q : List Charge) (n m : ℕ) → m ≡ suc n → OpenBelow p q n → keeps_open p q n ≡ true → OpenBelow p q m
open_more p q n m next before here j l = by (cases_eq j n)
  where
    by : (j ≡ n) ⊎ (j ≢ n) → keeps_open p q j ≡ true
    by (inl e) = ap (keeps_open p q) e ∙ here
    by (inr ne) = before j (omega (arith, l, ne, next))

and_false : (a b : Bool) → b ≡ false → (a && b) ≡ false
and_false true b e = e
and_false false b e = refl

false_and : (a b : Bool) → a ≡ false → (a && b) ≡ false
false_and a b e = rw e refl

all_open : (p : Problem) (q : List Charge) (n : ℕ) → ((j : ℕ) → j < n → keeps_open p q j ≡ true) → all_below n (keeps_open p q) ≡ true
all_open p q zero each = refl
all_open p q (suc n) each = rw (all_open p q n (λ j l. each j (omega (arith, l))), each n (omega arith)) refl

one_closed : (p : Problem) (q : List Charge) (k n : ℕ) → k < n → keeps_open p q k ≡ false → all_below n (keeps_open p q) ≡ false
one_closed p q k zero l closed = absurd (omega (arith, l))
one_closed p q k (suc n) l closed = by (cases_eq n k) (λ m. one_closed p q k n m closed)
  where
    by : (n ≡ k) ⊎ (n ≢ k) → (k < n → all_below n (keeps_open p q) ≡ false) → (all_below n (keeps_open p q) && keeps_open p q n) ≡ false
    by (inl e) before = and_false (all_below n (keeps_open p q)) (keeps_open p q n) (ap (keeps_open p q) e ∙ closed)
    by (inr ne) before = false_and (all_below n (keeps_open p q)) (keeps_open p q n) (before (omega (arith, l, ne)))

pub closed_is_not_open : (p : Problem) (q : List Charge) (k : ℕ) → k < p.sites → keeps_open p q k ≡ false → false ≡ is_open p q
unfolding is_open
closed_is_not_open p q k l closed = sym (one_closed p q k p.sites l closed)

pub open_to_the_end : (p : Problem) (q : List Charge) (k : ℕ) → k ≡ p.sites → OpenBelow p q k → true ≡ is_open p q
unfolding is_open
open_to_the_end p q k whole each = sym (ap (λ n. all_below n (keeps_open p q)) (sym whole) ∙ all_open p q k each)

pub first_closed : (p : Problem) (q : List Charge) (k : ℕ) → k < p.sites → OpenBelow p q k → keeps_open p q k ≡ false → IsFirstClosed p q k
first_closed p q k l before closed = record { site = l; before = before; closed = closed }
