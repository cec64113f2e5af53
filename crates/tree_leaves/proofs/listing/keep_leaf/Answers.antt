use Rattle.std.proofs.Common.{refl, sym, ap, ◌∙◌, [], ◌∷◌, ◌++◌}
use Rattle.std.proofs.lemmas.Bool.{false≢true}
use Rattle.std.proofs.lemmas.List.{append-nil}
use Rattle.tree_leaves.proofs.Branches.{leaves_kept, leaves_dropped}
use Rattle.tree_leaves.proofs.listing.keep_leaf.Goals as goal

pub returns-in_ok-push : goal.returns-in_ok-push
returns-in_ok-push c = record {
  left = refl;
  more = c.args.track.now.prefix ∷ [];
  lists = c.in_ok-push.ensures.items ∙ ap (λ x. c.args.found.now.lists.items ++ x ∷ []) (c.copy.ensures ∙ c.charges.ensures);
  leaves = leaves_kept c.args.problem.now c.args.threshold c.args.track.now.prefix c.requires.full c.requires.node (c.in_ok-possible.ensures.0 c.if-possible.true);
}

pub returns-else-possible : goal.returns-else-possible
returns-else-possible c = record {
  left = refl;
  more = [];
  lists = sym (append-nil c.args.found.now.lists.items);
  leaves = leaves_dropped c.args.problem.now c.args.threshold c.args.track.now.prefix c.requires.full
      (λ h. false≢true (sym c.if-possible.false ∙ c.in_ok-possible.ensures.1 h));
}
