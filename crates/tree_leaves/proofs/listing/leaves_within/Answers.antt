use Rattle.std.proofs.Common.{◌≡◌, ℕ, ◌<◌, sym, subst, ◌∙◌, arith, [], Option, Some, None, ℤ, List}
use Rattle.std.specs.Prelude.{IfOk, MatchOption, Result, Ok, Err}
use Rattle.charge_model.specs.declared.charge.Charge.{Charge}
use Rattle.charge_model.specs.Problem.{Problem}
use Rattle.charge_model.specs.Tree.{node_count}
use Rattle.tree_leaves.specs.Leaves.{Leaves}
use Rattle.tree_leaves.specs.Answer.{IsLeafList, IsListedUnder}
use Rattle.tree_leaves.specs.Subtree.{IsPrefix, nodes_under}
use Rattle.tree_leaves.proofs.Counts.{count_root}
use Rattle.tree_leaves.proofs.Branches.{IsTested, leaves_of_root}
use Rattle.tree_leaves.proofs.listing.leaves_within.Goals as goal

pub leaves_under-requires : goal.leaves_under-requires
leaves_under-requires c = subst (IsPrefix c.args.problem.now) (sym c.empty.ensures) (record { short = omega arith; of_base = tt })

of_root : {E : Type 0} (p : Problem) (o : Option ℤ) (limit : ℕ) (q : List Charge) (r : Result (Option Leaves) E) → IsTested p o → q ≡ []
    → IfOk r (λ l. MatchOption l (limit < nodes_under p o q) (IsListedUnder p o q limit)) → IfOk r (λ l. MatchOption l (limit < node_count p o) (IsLeafList p o limit))
of_root p o limit q r tested none h = by r (subst (λ z. IfOk r (λ l. MatchOption l (limit < nodes_under p o z) (IsListedUnder p o z limit))) none h)
  where
    by : {E : Type 0} (s : Result (Option Leaves) E) → IfOk s (λ l. MatchOption l (limit < nodes_under p o []) (IsListedUnder p o [] limit)) → IfOk s (λ l. MatchOption l (limit < node_count p o) (IsLeafList p o limit))
    by (Ok None) over = let root = count_root p o in omega (arith, root, over)
    by (Ok (Some l)) is = let root = count_root p o in record {
      leaves = leaves_of_root p o l.lists tested is.leaves;
      nodes = is.nodes ∙ root;
      within = let within = is.within in omega (arith, root, within);
    }
    by (Err e) h = h

pub returns : goal.returns
returns c = of_root c.args.problem.now c.args.bound c.args.limit c.empty.result c.leaves_under.result
    (λ q short. c.nodes_are_tested.ensures c.args.problem.now c.args.bound q short) c.empty.ensures c.leaves_under.ensures
