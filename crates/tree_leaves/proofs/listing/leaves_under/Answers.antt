use Rattle.std.proofs.Common.{◌<◌, ◌≤◌, sym, ap, subst, ◌∙◌, arith, ◌++◌, ◌⊎◌, inl, inr}
use Rattle.std.proofs.lemmas.Bool.{cases_lt, false≢true}
use Rattle.tree_leaves.specs.Subtree.{nodes_under, AreLeavesUnder}
use Rattle.tree_leaves.proofs.listing.leaves_under.Goals as goal

pub returns-then-not-branch : goal.returns-then-not-branch
returns-then-not-branch c =
    by (cases_lt c.args.limit (nodes_under c.args.problem.now c.args.threshold c.args.prefix.now))
    (λ few. false≢true (sym c.if-not-branch.true ∙ c.in_ok-visit_prefix.ensures.within.1 few))
  where
    by : {m n : _} → (m < n) ⊎ (n ≤ m) → (n ≤ m → ⊥) → m < n
    by (inl over) never = over
    by (inr few) never = absurd (never few)

pub returns : goal.returns
returns c =
    let p = c.args.problem.now in
    let o = c.args.threshold in
    let q = c.args.prefix.now in
    let visited = c.in_ok-visit_prefix.ensures.visited c.if-not-branch.false in
    record {
      leaves = subst (AreLeavesUnder p o q) (sym (visited.lists ∙ ap (λ l. l ++ visited.more) c.new.ensures.items)) visited.leaves;
      nodes = omega (arith, visited.entered);
      within = omega (arith, visited.entered);
    }
