use Rattle.std.proofs.Common.{List, arith, subst}
use Rattle.std.specs.Prelude.{MatchOption}
use Rattle.charge_model.specs.declared.charge.Charge.{Charge}
use Rattle.charge_model.specs.Rules.{IsChargeList, IsPossiblyValid}
use Rattle.charge_model.specs.GroundList.{lists_of}
use Rattle.candidate_marks.specs.Candidates.{IsWeighedList}
use Rattle.narrower_lists.proofs.PossibleLemmas.{charges_of_entry, places, kept_push, kept_skip}
use Rattle.narrower_lists.proofs.possible.possible_entries.Goals as goal
use Rattle.narrower_lists.proofs.possible.possible_entries.Goals.{in-Some+in_ok-push-in-Some, in-None}

pub weighed-requires : goal.weighed-requires
weighed-requires c =
    let es = c.args.list.now in
    let k = c.loop-k.k in
    let x = c.entry.result.now.charges in
    let lt = c.loop-k-test.true in
    let len = c.len-k-end.ensures.value in
    let inside = places es k (omega (arith, lt, len)) in
    subst (IsChargeList c.args.problem.now) (charges_of_entry es k _ x (omega (arith, lt, len)) c.entry.ensures) (c.requires.lists k x inside)

pub loop-k-preserved : goal.loop-k-preserved
loop-k-preserved c =
    let p = c.args.problem.now in
    let es = c.args.list.now in
    let ls = lists_of es in
    let k = c.loop-k.k in
    let x = c.entry.result.now.charges in
    let lt = c.loop-k-test.true in
    let len = c.len-k-end.ensures.value in
    let is = λ (d : List Charge). charges_of_entry es k _ d (omega (arith, lt, len)) c.entry.ensures in
    elim c.match-branch-2.branch [
      | in-Some+in_ok-push-in-Some w ↦ rw (w.found-is, w.in_ok-push-in-Some.ensures.items)
          (kept_push p ls k c.loop-k.found.items x w.in-Some.candidate c.requires.order c.loop-k.invariant (places es k (omega (arith, lt, len))) is
          (subst (λ o. MatchOption o (IsPossiblyValid p x → ⊥) (IsWeighedList p x)) w.in-Some.is c.in_ok-candidate.ensures))
      | in-None w ↦ rw w.found-is (kept_skip p ls k c.loop-k.found.items x c.loop-k.invariant is
          (subst (λ o. MatchOption o (IsPossiblyValid p x → ⊥) (IsWeighedList p x)) w.in-None.is c.in_ok-candidate.ensures))
    ]
