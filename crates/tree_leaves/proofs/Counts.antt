-- the counts of a prefix and of those with one charge more
use Rattle.std.proofs.Common.{◌≡◌, ℕ, zero, suc, ◌+◌, ◌-◌, ◌<◌, ◌≤◌, ℤ, List, [], ◌∷◌, ◌++◌, length, true, false, refl, ap, ◌∙◌, arith, Option, length-append, ◌⊎◌, inl, inr}
use Rattle.std.proofs.lemmas.Bool.{cases_lt}
use Rattle.charge_model.specs.declared.charge.Charge.{Charge}
use Rattle.charge_model.specs.declared.charge.Charge.TheVariants.{Neg, Neutral, Pos}
use Rattle.charge_model.specs.Problem.{Problem}
use Rattle.charge_model.specs.Tree.{is_node, nodes_from, node_count}
use Rattle.tree_leaves.specs.Subtree.{nodes_under, nodes_beyond}

pub closed_from : (p : Problem) (o : Option ℤ) (more : ℕ) (q : List Charge) → is_node p o q ≡ false → nodes_from p o more q ≡ 0
closed_from p o zero q h = rw h refl
closed_from p o (suc more) q h = rw h refl

pub count_closed : (p : Problem) (o : Option ℤ) (q : List Charge) → is_node p o q ≡ false → nodes_under p o q ≡ 0
unfolding nodes_under
count_closed p o q h = closed_from p o (p.sites - length q) q h

pub count_full : (p : Problem) (o : Option ℤ) (q : List Charge) → p.sites ≤ length q → is_node p o q ≡ true → nodes_under p o q ≡ 1
unfolding nodes_under
count_full p o q full h = let none : p.sites - length q ≡ 0 = omega arith in ap (λ n. nodes_from p o n q) none ∙ rw h refl

pub count_node : (p : Problem) (o : Option ℤ) (q : List Charge) → length q < p.sites → is_node p o q ≡ true → nodes_under p o q ≡ nodes_beyond p o q + 1
unfolding nodes_under
count_node p o q room h =
    let more = p.sites - suc (length q) in
    let here : p.sites - length q ≡ suc more = omega arith in
    ap (λ n. nodes_from p o n q) here ∙ rw (h, child Neg, child Neutral, child Pos) (omega arith)
  where
    child : (c : Charge) → p.sites - length (q ++ c ∷ []) ≡ p.sites - suc (length q)
    child c = omega (arith, length-append q (c ∷ []))

pub count_positive : (p : Problem) (o : Option ℤ) (q : List Charge) → is_node p o q ≡ true → 1 ≤ nodes_under p o q
count_positive p o q h = by (cases_lt (length q) p.sites)
  where
    by : (length q < p.sites) ⊎ (p.sites ≤ length q) → 1 ≤ nodes_under p o q
    by (inl room) = omega (arith, count_node p o q room h)
    by (inr full) = omega (arith, count_full p o q full h)

pub count_root : (p : Problem) (o : Option ℤ) → nodes_under p o [] ≡ node_count p o
unfolding nodes_under node_count
count_root p o = let whole : p.sites - 0 ≡ p.sites = omega arith in ap (λ n. nodes_from p o n []) whole

-- a prefix that is no node, a full one, another node, and the empty prefix
pub ruleset counted = (count_closed, count_full, count_node, count_root)
