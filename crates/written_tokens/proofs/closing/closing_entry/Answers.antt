use Rattle.std.proofs.Common.{◌≡◌, ◌∙◌, ◌≤◌, ◌≤ℤ◌, length, None, sym, subst}
use Rattle.std.specs.Prelude.{IfSome}
use Rattle.std.proofs.lemmas.Bool.{false≢true}
use Rattle.charge_model.specs.Prefixes.{low, IsOpen}
use Rattle.charge_model.specs.Tree.{IsNode}
use Rattle.written_tokens.specs.Listing.{lists_in, guiding_by}
use Rattle.written_tokens.specs.Steps.{AreNotBelow, IsFirstBelow}
use Rattle.written_tokens.proofs.StepLemmas.{energy_first, energy_none}
use Rattle.written_tokens.proofs.ClosedSites.{open_is, closing_of, closing_some}
use Rattle.written_tokens.proofs.closing.closing_entry.Goals as goal

pub returns-then-is_within-clause-none : goal.returns-then-is_within-clause-none
returns-then-is_within-clause-none c =
    let p = c.args.problem.now in
    let q = c.args.track.now.prefix in
    let short = subst (λ x. length q ≤ x.sites) c.requires.problem c.len-short.ensures.short in
    let opens : IsOpen p q = open_is p q (c.nodes_are_tested.ensures p None q short) c.requires.opens in
    record { opens = opens; within = subst (λ b. IfSome c.args.threshold (λ most. b ≤ℤ most)) c.bound_of-bound.ensures (c.is_within.ensures.0 c.if-is_within.true) }

pub unreachable-requires : goal.unreachable-requires
unreachable-requires c =
    let p = c.args.problem.now in
    let q = c.args.track.now.prefix in
    let w = c.args.window.width in
    let o = c.args.threshold in
    let l = lists_in c.args.entries.now in
    let short = subst (λ x. length q ≤ x.sites) c.requires.problem c.len-short.ensures.short in
    let opens : IsOpen p q = open_is p q (c.nodes_are_tested.ensures p None q short) c.requires.opens in
    let never : IsNode p o q → ⊥ = λ node.
    false≢true (sym c.if-is_within.false ∙ c.is_within.ensures.1 (subst (λ b. IfSome o (λ most. b ≤ℤ most)) (sym c.bound_of-bound.ensures) node.within)) in
    let below = subst (λ b. AreNotBelow c.as_slice.result.now (length c.as_slice.result.now) b) c.bound_of-bound.ensures c.in-None.ensures.none in
    let steps = subst (λ s. AreNotBelow s (length s) (low p q)) c.as_slice.ensures.value below in
    closing_some p w o l q ((c.sites_keep_prefixes_open.ensures p q short).0 opens)
    (energy_none p w l q c.args.entries.now.steps.items c.requires.entries.steps steps)
    (closing_of (guiding_by p w o c.args.entries.now) q never c.requires.some)

pub returns-clause-found : goal.returns-clause-found
returns-clause-found c =
    let p = c.args.problem.now in
    let q = c.args.track.now.prefix in
    let o = c.args.threshold in
    let short = subst (λ x. length q ≤ x.sites) c.requires.problem c.len-short.ensures.short in
    let opens : IsOpen p q = open_is p q (c.nodes_are_tested.ensures p None q short) c.requires.opens in
    let never : IsNode p o q → ⊥ = λ node.
    false≢true (sym c.if-is_within.false ∙ c.is_within.ensures.1 (subst (λ b. IfSome o (λ most. b ≤ℤ most)) (sym c.bound_of-bound.ensures) node.within)) in
    let below = subst (λ b. IsFirstBelow c.as_slice.result.now b c.in-Some.j) c.bound_of-bound.ensures c.in-Some.ensures.found in
    let step = subst (λ s. IsFirstBelow s (low p q) c.in-Some.j) c.as_slice.ensures.value below in (
      record { opens = opens; above = never },
      energy_first p c.args.window.width (lists_in c.args.entries.now) q c.args.entries.now.steps.items c.requires.entries.steps c.in-Some.j step,
    )
