-- the levels at which a list is possibly valid, or certainly valid, are an interval
use Rattle.std.proofs.Common.{◌≡◌, ℕ, List, ℤ, pos, ◌-ℤ◌, ◌*ℤ◌, ◌≤ℤ◌, sym, subst, arith}
use Rattle.std.proofs.lemmas.Int.{ints}
use Rattle.charge_model.specs.declared.charge.Charge.{Charge}
use Rattle.charge_model.specs.declared.charge.Test.TheVariants.{AboveMinus, AbovePlus, BelowMinus, BelowPlus}
use Rattle.charge_model.specs.Problem.{Problem, UnderSomeTable, UnderEveryTable}
use Rattle.charge_model.specs.Rules.{potential_at, slack, Inequality, at_site, by_hop, IsInequalityOf}
use Rattle.charge_model.proofs.Sums.{mul-le}
use Rattle.level_range_laws.specs.Levels.{at_level, gap_of, IsPossibleAt, IsCertainAt}
use Rattle.level_range_laws.proofs.LevelFacts.{table_at, table_of, slack_above_minus, slack_above_plus, slack_below_minus, slack_below_plus, hop_slack_at}

-- a number above a level, times the scale, is above a lower one
lower_level : (s : ℕ) (v a b : ℤ) → a ≤ℤ b → pos 0 ≤ℤ (v -ℤ pos s *ℤ b) → pos 0 ≤ℤ (v -ℤ pos s *ℤ a)
lower_level s v a b h k = let more = mul-le a b s h in omega (arith, ints, more, k)

higher_level : (s : ℕ) (v a b : ℤ) → a ≤ℤ b → pos 0 ≤ℤ (pos s *ℤ a -ℤ v) → pos 0 ≤ℤ (pos s *ℤ b -ℤ v)
higher_level s v a b h k = let more = mul-le a b s h in omega (arith, ints, more, k)

from : (x y : ℤ) → x ≡ y → pos 0 ≤ℤ x → pos 0 ≤ℤ y
from x y e h = subst (λ z. pos 0 ≤ℤ z) e h

-- one that holds at two levels holds between them, under one of the two tables
pub some_between : (p : Problem) (c : List Charge) (q : Inequality) (a m b : ℤ) → a ≤ℤ m → m ≤ℤ b
    → UnderSomeTable (at_level p a) (λ t. pos 0 ≤ℤ slack (at_level p a) c q t) → UnderSomeTable (at_level p b) (λ t. pos 0 ≤ℤ slack (at_level p b) c q t)
    → UnderSomeTable (at_level p m) (λ t. pos 0 ≤ℤ slack (at_level p m) c q t)
some_between p c (at_site i AboveMinus) a m b low high (t, is, h) (u, it, k) =
    (u, table_at p m u (table_of p b u it), from _ _ (sym (slack_above_minus p m c i u)) (lower_level u.scale (potential_at p u c i) m b high (from _ _ (slack_above_minus p b c i u) k)))
some_between p c (at_site i AbovePlus) a m b low high (t, is, h) (u, it, k) =
    (u, table_at p m u (table_of p b u it), from _ _ (sym (slack_above_plus p m c i u)) (lower_level u.scale (potential_at p u c i) (m -ℤ gap_of p) (b -ℤ gap_of p) (omega (arith, ints, high)) (from _ _ (slack_above_plus p b c i u) k)))
some_between p c (at_site i BelowMinus) a m b low high (t, is, h) (u, it, k) =
    (t, table_at p m t (table_of p a t is), from _ _ (sym (slack_below_minus p m c i t)) (higher_level t.scale (potential_at p t c i) a m low (from _ _ (slack_below_minus p a c i t) h)))
some_between p c (at_site i BelowPlus) a m b low high (t, is, h) (u, it, k) =
    (t, table_at p m t (table_of p a t is), from _ _ (sym (slack_below_plus p m c i t)) (higher_level t.scale (potential_at p t c i) (a -ℤ gap_of p) (m -ℤ gap_of p) (omega (arith, ints, low)) (from _ _ (slack_below_plus p a c i t) h)))
some_between p c (by_hop i j) a m b low high (t, is, h) (u, it, k) =
    (t, table_at p m t (table_of p a t is), from _ _ (sym (hop_slack_at p m c i j t)) (from _ _ (hop_slack_at p a c i j t) h))

-- and under every table, where it does so at both
pub every_between : (p : Problem) (c : List Charge) (q : Inequality) (a m b : ℤ) → a ≤ℤ m → m ≤ℤ b
    → UnderEveryTable (at_level p a) (λ t. pos 0 ≤ℤ slack (at_level p a) c q t) → UnderEveryTable (at_level p b) (λ t. pos 0 ≤ℤ slack (at_level p b) c q t)
    → UnderEveryTable (at_level p m) (λ t. pos 0 ≤ℤ slack (at_level p m) c q t)
every_between p c q a m b low high h k t is =
    let own = table_of p m t is in
    (some_of q (h t (table_at p a t own)) (k t (table_at p b t own)))
  where
    some_of : (q : Inequality) → pos 0 ≤ℤ slack (at_level p a) c q t → pos 0 ≤ℤ slack (at_level p b) c q t → pos 0 ≤ℤ slack (at_level p m) c q t
    some_of (at_site i AboveMinus) x y = from _ _ (sym (slack_above_minus p m c i t)) (lower_level t.scale (potential_at p t c i) m b high (from _ _ (slack_above_minus p b c i t) y))
    some_of (at_site i AbovePlus) x y = from _ _ (sym (slack_above_plus p m c i t)) (lower_level t.scale (potential_at p t c i) (m -ℤ gap_of p) (b -ℤ gap_of p) (omega (arith, ints, high)) (from _ _ (slack_above_plus p b c i t) y))
    some_of (at_site i BelowMinus) x y = from _ _ (sym (slack_below_minus p m c i t)) (higher_level t.scale (potential_at p t c i) a m low (from _ _ (slack_below_minus p a c i t) x))
    some_of (at_site i BelowPlus) x y = from _ _ (sym (slack_below_plus p m c i t)) (higher_level t.scale (potential_at p t c i) (a -ℤ gap_of p) (m -ℤ gap_of p) (omega (arith, ints, low)) (from _ _ (slack_below_plus p a c i t) x))
    some_of (by_hop i j) x y = from _ _ (sym (hop_slack_at p m c i j t)) (from _ _ (hop_slack_at p a c i j t) x)

pub possible_between : (p : Problem) (c : List Charge) (a m b : ℤ) → a ≤ℤ m → m ≤ℤ b → IsPossibleAt p a c → IsPossibleAt p b c → IsPossibleAt p m c
possible_between p c a m b low high h k q of = some_between p c q a m b low high (h q (same q of)) (k q (same_b q of))
  where
    same : (q : Inequality) → IsInequalityOf (at_level p m) c q → IsInequalityOf (at_level p a) c q
    same (at_site i t) of = of
    same (by_hop i j) of = of

    same_b : (q : Inequality) → IsInequalityOf (at_level p m) c q → IsInequalityOf (at_level p b) c q
    same_b (at_site i t) of = of
    same_b (by_hop i j) of = of

pub certain_between : (p : Problem) (c : List Charge) (a m b : ℤ) → a ≤ℤ m → m ≤ℤ b → IsCertainAt p a c → IsCertainAt p b c → IsCertainAt p m c
certain_between p c a m b low high h k q of = every_between p c q a m b low high (h q (same q of)) (k q (same_b q of))
  where
    same : (q : Inequality) → IsInequalityOf (at_level p m) c q → IsInequalityOf (at_level p a) c q
    same (at_site i t) of = of
    same (by_hop i j) of = of

    same_b : (q : Inequality) → IsInequalityOf (at_level p m) c q → IsInequalityOf (at_level p b) c q
    same_b (at_site i t) of = of
    same_b (by_hop i j) of = of
