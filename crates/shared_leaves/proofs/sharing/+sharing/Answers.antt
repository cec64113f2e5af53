use Rattle.std.proofs.Common.{◌≡◌, ◌+◌, sym, ap, subst, ◌∙◌, arith, length, length-append, [], ◌∷◌, ◌++◌}
use Rattle.std.proofs.lemmas.List.{append-nil}
use Rattle.std.proofs.lemmas.Result.{IfOk-weaker}
use Rattle.charge_model.specs.declared.charge.Charge.TheVariants.{Neutral, Pos}
use Rattle.tree_leaves.specs.Subtree.{IsPrefix}
use Rattle.tree_leaves.proofs.Branches.{prefix_push}
use Rattle.shared_leaves.specs.Shares.{IsSharedOut}
use Rattle.shared_leaves.proofs.Parts.{closed_parts, shared_two, shared_three}
use Rattle.shared_leaves.proofs.sharing.+sharing.Goals as goal

pub share_child-share_prefix-requires : goal.share_child-share_prefix-requires
share_child-share_prefix-requires t c =
    let p = c.args.problem.now in
    let q = c.args.track.now.prefix in
    let room = c.requires.room in
    let longer : length c.push.new.self.prefix ≡ length q + 1 = omega (arith, ap length c.push.ensures.prefix, length-append q (c.args.charge ∷ [])) in (
      omega arith,
      (
        c.push.ensures.problem ∙ c.requires.problem,
        (
          subst (IsPrefix p) (sym c.push.ensures.prefix) (prefix_push p q c.args.charge c.requires.prefix (omega arith) c.requires.base),
          omega arith,
        ),
      ),
    )

pub share_node-returns-then-base-eq2-clause-shared : goal.share_node-returns-then-base-eq2-clause-shared
share_node-returns-then-base-eq2-clause-shared t c =
    let p = c.args.problem.now in
    let o = c.args.threshold in
    let room = c.requires.room in
    let same = ap (λ z. z.prefix) c.in_ok-share_child.ensures.kept in
    let second = subst (λ q. IsSharedOut p o (q ++ Neutral ∷ []) c.share_child.new.shares.items c.share_child-2.new.shares.items) same c.in_ok-share_child-2.ensures.shared in
    shared_two p o c.args.track.now.prefix c.args.shares.now.items c.push.new.self.items c.share_child.new.shares.items c.share_child-2.new.shares.items
    (sym c.base.ensures.value ∙ c.if-base-eq2.true) (omega arith) c.requires.node c.in_ok-push.ensures.items c.in_ok-share_child.ensures.shared second

pub share_node-returns-clause-shared : goal.share_node-returns-clause-shared
share_node-returns-clause-shared t c =
    let p = c.args.problem.now in
    let o = c.args.threshold in
    let room = c.requires.room in
    let one = ap (λ z. z.prefix) c.in_ok-share_child.ensures.kept in
    let two = ap (λ z. z.prefix) c.in_ok-share_child-2.ensures.kept ∙ one in
    let second = subst (λ q. IsSharedOut p o (q ++ Neutral ∷ []) c.share_child.new.shares.items c.share_child-2.new.shares.items) one c.in_ok-share_child-2.ensures.shared in
    IfOk-weaker c.share_child-3.result (λ _. IsSharedOut p o (c.share_child-2.new.track.prefix ++ Pos ∷ []) c.share_child-2.new.shares.items c.share_child-3.new.shares.items)
    (λ _. IsSharedOut p o c.args.track.now.prefix c.args.shares.now.items c.share_child-3.new.shares.items)
    (λ _ third. shared_three p o c.args.track.now.prefix c.args.shares.now.items c.push.new.self.items c.share_child.new.shares.items c.share_child-2.new.shares.items c.share_child-3.new.shares.items
    (λ e. c.if-base-eq2.false (c.base.ensures.value ∙ e)) (omega arith) c.requires.node c.in_ok-push.ensures.items c.in_ok-share_child.ensures.shared second
    (subst (λ q. IsSharedOut p o (q ++ Pos ∷ []) c.share_child-2.new.shares.items c.share_child-3.new.shares.items) two third)) c.share_child-3.ensures.shared

pub share_prefix-returns-then-not-enters-clause-shared : goal.share_prefix-returns-then-not-enters-clause-shared
share_prefix-returns-then-not-enters-clause-shared t c =
    let closed = sym c.enters.ensures ∙ c.if-not-enters.true in
    record {
      more = [];
      added = sym (append-nil c.args.shares.now.items);
      shares = closed_parts c.args.problem.now c.args.threshold c.args.track.now.prefix closed;
    }
