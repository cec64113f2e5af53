-- a higher threshold has no fewer members in its tree
use Rattle.std.proofs.Common.{◌≡◌, ℕ, zero, suc, ◌-◌, ◌≤◌, ℤ, ◌≤ℤ◌, List, [], ◌∷◌, ◌++◌, length, true, false, refl, arith, Option, Some, None, eqb, cond, ◌&&◌}
use Rattle.std.specs.Prelude.{Bool, int_le}
use Rattle.std.proofs.lemmas.Int.{ints}
use Rattle.std.proofs.lemmas.Bool.{false≢true}
use Rattle.charge_model.specs.declared.charge.Charge.{Charge}
use Rattle.charge_model.specs.declared.charge.Charge.TheVariants.{Neg, Neutral, Pos}
use Rattle.charge_model.specs.Problem.{Problem}
use Rattle.charge_model.specs.Prefixes.{low}
use Rattle.charge_model.specs.Tree.{is_node, is_open, nodes_from}
use Rattle.tree_leaves.specs.Subtree.{nodes_under, IsThresholdAtMost}
use Rattle.tree_leaves.proofs.Counts.{closed_from}

both_true : (a b : Bool) → (a && b) ≡ true → (a ≡ true) × (b ≡ true)
both_true true b h = (refl, h)
both_true false b h = absurd (false≢true h)

and_true : (a b : Bool) → a ≡ true → b ≡ true → (a && b) ≡ true
and_true a b e f = rw (e, f) refl

le_more : (x a b : ℤ) → a ≤ℤ b → int_le x a ≡ true → int_le x b ≡ true
le_more x a b h e = by (int_le x b) refl
  where
    by : (r : Bool) → int_le x b ≡ r → int_le x b ≡ true
    by true f = f
    by false f = absurd (omega (arith, ints, h, e, f))

node_more : (p : Problem) (a b : Option ℤ) (q : List Charge) → IsThresholdAtMost a b → is_node p a q ≡ true → is_node p b q ≡ true
unfolding is_node
node_more p None None q more h = h
node_more p (Some x) None q more h = (both_true (is_open p q) (int_le (low p q) x) h).0
node_more p None (Some y) q more h = absurd more
node_more p (Some x) (Some y) q more h =
    let both = both_true (is_open p q) (int_le (low p q) x) h in and_true (is_open p q) (int_le (low p q) y) both.0 (le_more (low p q) x y more both.1)

third : (b : Bool) (m n : ℕ) → m ≤ n → cond b 0 m ≤ cond b 0 n
third true m n h = omega arith
third false m n h = h

from_more : (p : Problem) (a b : Option ℤ) (left : ℕ) (q : List Charge) → IsThresholdAtMost a b → nodes_from p a left q ≤ nodes_from p b left q
from_more p a b zero q more = by (is_node p a q) refl
  where
    by : (x : Bool) → is_node p a q ≡ x → nodes_from p a 0 q ≤ nodes_from p b 0 q
    by false e = omega (arith, closed_from p a 0 q e)
    by true e = let other = node_more p a b q more e in rw (e, other) (omega arith)
from_more p a b (suc left) q more = by (is_node p a q) refl (from_more p a b left (q ++ Neg ∷ []) more) (from_more p a b left (q ++ Neutral ∷ []) more)
    (third (eqb p.base 2) (nodes_from p a left (q ++ Pos ∷ [])) (nodes_from p b left (q ++ Pos ∷ [])) (from_more p a b left (q ++ Pos ∷ []) more))
  where
    by : (x : Bool) → is_node p a q ≡ x → nodes_from p a left (q ++ Neg ∷ []) ≤ nodes_from p b left (q ++ Neg ∷ []) → nodes_from p a left (q ++ Neutral ∷ []) ≤ nodes_from p b left (q ++ Neutral ∷ [])
        → cond (eqb p.base 2) 0 (nodes_from p a left (q ++ Pos ∷ [])) ≤ cond (eqb p.base 2) 0 (nodes_from p b left (q ++ Pos ∷ [])) → nodes_from p a (suc left) q ≤ nodes_from p b (suc left) q
    by false e f g h = omega (arith, closed_from p a (suc left) q e)
    by true e f g h = let other = node_more p a b q more e in rw (e, other) (omega (arith, f, g, h))

pub count_more : (p : Problem) (a b : Option ℤ) (q : List Charge) → IsThresholdAtMost a b → nodes_under p a q ≤ nodes_under p b q
unfolding nodes_under
count_more p a b q more = from_more p a b (p.sites - length q) q more
