-- at which levels a list may be possibly valid, by bounds of its potentials
use Rattle.std.proofs.Common.{◌≡◌, ℕ, ◌<◌, List, ℤ, pos, ◌-ℤ◌, ◌*ℤ◌, ◌≤ℤ◌, refl, subst, arith, inl, inr}
use Rattle.std.proofs.lemmas.Int.{ints}
use Rattle.charge_model.specs.declared.charge.Charge.{Charge}
use Rattle.charge_model.specs.declared.charge.Charge.TheVariants.{Neg, Neutral, Pos}
use Rattle.charge_model.specs.declared.charge.Test.TheVariants.{AboveMinus, AbovePlus, BelowMinus, BelowPlus}
use Rattle.charge_model.specs.Charges.{charge_at}
use Rattle.charge_model.specs.Problem.{Problem, Table, IsTable}
use Rattle.charge_model.specs.Rules.{potential_at, at_site}
use Rattle.charge_model.proofs.Products.{unscaled}
use Rattle.level_range_laws.specs.Levels.{gap_of, IsPossibleAt}
use Rattle.level_range_laws.proofs.LevelFacts.{table_of, slack_above_minus, slack_above_plus, slack_below_minus, slack_below_plus}
use Rattle.level_candidates.specs.Ends.{Allows}

-- a potential lies between these, under every table
pub record AreBounds (p : Problem) (c : List Charge) (k : ℕ) (lo hi : ℤ) : Type 0 where
  pub least : (t : Table) → IsTable p t → (pos t.scale *ℤ lo) ≤ℤ potential_at p t c k
  pub greatest : (t : Table) → IsTable p t → potential_at p t c k ≤ℤ (pos t.scale *ℤ hi)

from : (x y : ℤ) → x ≡ y → pos 0 ≤ℤ x → pos 0 ≤ℤ y
from x y e h = subst (λ z. pos 0 ≤ℤ z) e h

up_to_greatest : (p : Problem) (c : List Charge) (k : ℕ) (level lo hi : ℤ) (t : Table) → AreBounds p c k lo hi → IsTable p t
    → pos 0 ≤ℤ (potential_at p t c k -ℤ pos t.scale *ℤ level) → level ≤ℤ hi
up_to_greatest p c k level lo hi t b is slack = let bound = b.greatest t is in unscaled t.scale level hi is.positive (omega (arith, ints, slack, bound))

from_least : (p : Problem) (c : List Charge) (k : ℕ) (level lo hi : ℤ) (t : Table) → AreBounds p c k lo hi → IsTable p t
    → pos 0 ≤ℤ (pos t.scale *ℤ level -ℤ potential_at p t c k) → lo ≤ℤ level
from_least p c k level lo hi t b is slack = let bound = b.least t is in unscaled t.scale lo level is.positive (omega (arith, ints, slack, bound))

pub allowed : (p : Problem) (c : List Charge) (k : ℕ) (m lo hi : ℤ) (a : Charge) → charge_at c k ≡ a → k < p.sites → AreBounds p c k lo hi → IsPossibleAt p m c → Allows a (gap_of p) hi lo m
allowed p c k m lo hi Neg e l b h =
    let test = h (at_site k AboveMinus) (l, rw e refl) in
    up_to_greatest p c k m lo hi test.0 b (table_of p m test.0 test.1) (from _ _ (slack_above_minus p m c k test.0) test.2)
allowed p c k m lo hi Neutral e l b h =
    let above = h (at_site k AbovePlus) (l, rw e (inl refl)) in
    let below = h (at_site k BelowMinus) (l, rw e (inr refl)) in
    let high = up_to_greatest p c k (m -ℤ gap_of p) lo hi above.0 b (table_of p m above.0 above.1) (from _ _ (slack_above_plus p m c k above.0) above.2) in
    (omega (arith, ints, high), from_least p c k m lo hi below.0 b (table_of p m below.0 below.1) (from _ _ (slack_below_minus p m c k below.0) below.2))
allowed p c k m lo hi Pos e l b h =
    let test = h (at_site k BelowPlus) (l, rw e refl) in
    let low = from_least p c k (m -ℤ gap_of p) lo hi test.0 b (table_of p m test.0 test.1) (from _ _ (slack_below_plus p m c k test.0) test.2) in
    omega (arith, ints, low)
