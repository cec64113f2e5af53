use Rattle.std.proofs.Common.{◌≡◌, ◌+◌, ◌<◌, refl, sym, ap, subst, ◌∙◌, arith, length, length-append, [], ◌∷◌, ◌++◌, ◌-◌}
use Rattle.std.proofs.lemmas.Bool.{false≢true}
use Rattle.charge_model.specs.declared.charge.Charge.TheVariants.{Neutral, Pos}
use Rattle.tree_leaves.specs.Subtree.{IsPrefix}
use Rattle.tree_leaves.specs.declared.listing.FoundLists.{FoundLists}
use Rattle.tree_leaves.specs.Visits.{IsVisited, AreChildrenVisited}
use Rattle.tree_leaves.proofs.Counts.{count_closed, count_full, count_node, count_positive}
use Rattle.tree_leaves.proofs.Branches.{prefix_push}
use Rattle.tree_leaves.proofs.Found.{within_same, where_within, visited_closed, visited_node, visited_leaf, children_two, children_three}
use Rattle.tree_leaves.proofs.listing.+search.Goals as goal

pub visit-returns-then-not-enters-clause-within : goal.visit-returns-then-not-enters-clause-within
visit-returns-then-not-enters-clause-within t c =
    let none = count_closed c.args.problem.now c.args.threshold c.args.track.now.prefix (sym c.enters.ensures ∙ c.if-not-enters.true) in
    (λ _. omega (arith, none), λ _. refl)

pub visit-returns-then-not-enters-clause-visited : goal.visit-returns-then-not-enters-clause-visited
visit-returns-then-not-enters-clause-visited t c = λ _. visited_closed c.args.problem.now c.args.threshold c.args.track.now.prefix c.args.found.now (sym c.enters.ensures ∙ c.if-not-enters.true)

pub visit-returns-then-found-eq0-clause-within : goal.visit-returns-then-found-eq0-clause-within
visit-returns-then-found-eq0-clause-within t c =
    let some = count_positive c.args.problem.now c.args.threshold c.args.track.now.prefix (sym c.enters.ensures ∙ c.if-not-enters.false) in
    (λ e. absurd (false≢true e), λ h. absurd (omega (arith, some, h)))

pub visit-returns-then-len-sites-clause-within : goal.visit-returns-then-len-sites-clause-within
visit-returns-then-len-sites-clause-within t c =
    let node = count_node c.args.problem.now c.args.threshold c.args.track.now.prefix (omega arith) (sym c.enters.ensures ∙ c.if-not-enters.false) in
    within_same c.visit_children.result _ _ (c.args.found.now.left - 1) c.args.found.now.left (λ h. omega (arith, node, h), λ h. omega (arith, node, h)) c.visit_children.ensures.within

pub visit-returns-then-len-sites-clause-visited : goal.visit-returns-then-len-sites-clause-visited
visit-returns-then-len-sites-clause-visited t c =
    let room : length c.args.track.now.prefix < c.args.problem.now.sites = omega arith in
    let entered : FoundLists = record { lists = c.args.found.now.lists; left = c.args.found.now.left - 1 } in
    where_within c.visit_children.result (AreChildrenVisited c.args.problem.now c.args.threshold c.args.track.now.prefix entered c.visit_children.new.found)
    (IsVisited c.args.problem.now c.args.threshold c.args.track.now.prefix c.args.found.now c.visit_children.new.found)
    (λ h. visited_node c.args.problem.now c.args.threshold c.args.track.now.prefix c.args.found.now entered c.visit_children.new.found room (sym c.enters.ensures ∙ c.if-not-enters.false) (omega arith) refl h) c.visit_children.ensures.visited

pub visit-returns-clause-within : goal.visit-returns-clause-within
visit-returns-clause-within t c =
    let full = count_full c.args.problem.now c.args.threshold c.args.track.now.prefix (omega arith) (sym c.enters.ensures ∙ c.if-not-enters.false) in
    (λ _. omega (arith, full), λ _. refl)

pub visit-returns-clause-visited : goal.visit-returns-clause-visited
visit-returns-clause-visited t c = λ _.
    let entered : FoundLists = record { lists = c.args.found.now.lists; left = c.args.found.now.left - 1 } in
    visited_leaf c.args.problem.now c.args.threshold c.args.track.now.prefix c.args.found.now entered c.keep_leaf.new.found (omega arith) (sym c.enters.ensures ∙ c.if-not-enters.false) (omega arith) refl c.in_ok-keep_leaf.ensures

pub visit_child-returns-then-not-takes-clause-within : goal.visit_child-returns-then-not-takes-clause-within
visit_child-returns-then-not-takes-clause-within t c =
    let none = count_closed c.args.problem.now c.args.threshold _ (c.refused_charges_close.ensures.no_node c.args.problem.now c.args.threshold c.args.track.now.prefix c.args.charge c.requires.room (sym c.takes.ensures ∙ c.if-not-takes.true)) in
    (λ _. omega (arith, none), λ _. refl)

pub visit_child-returns-then-not-takes-clause-visited : goal.visit_child-returns-then-not-takes-clause-visited
visit_child-returns-then-not-takes-clause-visited t c = λ _.
    visited_closed c.args.problem.now c.args.threshold _ c.args.found.now (c.refused_charges_close.ensures.no_node c.args.problem.now c.args.threshold c.args.track.now.prefix c.args.charge c.requires.room (sym c.takes.ensures ∙ c.if-not-takes.true))

pub visit_child-visit-requires : goal.visit_child-visit-requires
visit_child-visit-requires t c =
    let longer : length c.push.new.self.prefix ≡ length c.args.track.now.prefix + 1 = omega (arith, ap length c.push.ensures.prefix, length-append c.args.track.now.prefix (c.args.charge ∷ [])) in (
      omega arith,
      (
        c.push.ensures.problem ∙ c.requires.problem,
        subst (IsPrefix c.args.problem.now) (sym c.push.ensures.prefix) (prefix_push c.args.problem.now c.args.track.now.prefix c.args.charge c.requires.prefix c.requires.room c.requires.base),
      ),
    )

pub visit_children-returns-then-base-eq2-clause-visited : goal.visit_children-returns-then-base-eq2-clause-visited
visit_children-returns-then-base-eq2-clause-visited t c = λ _.
    let p = c.args.problem.now in
    let o = c.args.threshold in
    let same = ap (λ z. z.prefix) (c.in_ok-visit_child.ensures.kept c.if-not-branch.false) in
    let second = c.in_ok-visit_child-2.ensures.visited c.if-not-branch-2.false in
    children_two p o c.args.track.now.prefix c.args.found.now c.visit_child.new.found c.visit_child-2.new.found (sym c.base.ensures.value ∙ c.if-base-eq2.true) c.requires.room
    (c.in_ok-visit_child.ensures.visited c.if-not-branch.false)
    (subst (λ q. IsVisited p o (q ++ Neutral ∷ []) c.visit_child.new.found c.visit_child-2.new.found) same second)

pub visit_children-returns-clause-visited : goal.visit_children-returns-clause-visited
visit_children-returns-clause-visited t c =
    let p = c.args.problem.now in
    let o = c.args.threshold in
    let one = ap (λ z. z.prefix) (c.in_ok-visit_child.ensures.kept c.if-not-branch.false) in
    let two = ap (λ z. z.prefix) (c.in_ok-visit_child-2.ensures.kept c.if-not-branch-2.false) ∙ one in
    let second = subst (λ q. IsVisited p o (q ++ Neutral ∷ []) c.visit_child.new.found c.visit_child-2.new.found) one (c.in_ok-visit_child-2.ensures.visited c.if-not-branch-2.false) in
    where_within c.visit_child-3.result (IsVisited p o (c.visit_child-2.new.track.prefix ++ Pos ∷ []) c.visit_child-2.new.found c.visit_child-3.new.found)
    (AreChildrenVisited p o c.args.track.now.prefix c.args.found.now c.visit_child-3.new.found)
    (λ h. children_three p o c.args.track.now.prefix c.args.found.now c.visit_child.new.found c.visit_child-2.new.found c.visit_child-3.new.found
    (λ e. c.if-base-eq2.false (c.base.ensures.value ∙ e)) c.requires.room
    (c.in_ok-visit_child.ensures.visited c.if-not-branch.false) second
    (subst (λ q. IsVisited p o (q ++ Pos ∷ []) c.visit_child-2.new.found c.visit_child-3.new.found) two h)) c.visit_child-3.ensures.visited
