use Rattle.std.proofs.Common.{arith, sym, below_more, ◌∙◌}
use Rattle.std.proofs.lemmas.Bool.{false≢true}
use Rattle.charge_validity.specs.OwnMarks.{AreTestsPossible, AreHopsPossible}
use Rattle.charge_validity.proofs.OwnMarkLemmas.{tests_of_possible, hops_of_possible}
use Rattle.charge_validity.proofs.validity.is_possible.Goals as goal
use Rattle.charge_validity.proofs.validity.is_possible.Goals.{then-not-tests-via-then-not-tests, then-not-tests-via-else-not-tests+then-not-hops}

pub returns-then-not-tests : goal.returns-then-not-tests
returns-then-not-tests c =
    let p = c.args.problem.now in
    let cs = c.args.charges.now in (
      λ e. absurd (false≢true e),
      λ v. elim c.then-not-tests.branch [
        | then-not-tests-via-then-not-tests w ↦ sym w.if-not-tests.true ∙ c.in_ok-tests.ensures.1 (tests_of_possible p cs c.loop-i.i (omega arith) v)
        | then-not-tests-via-else-not-tests+then-not-hops w ↦ sym w.if-not-hops.true ∙ c.in_ok-hops.ensures.1 (hops_of_possible p cs c.loop-i.i (omega arith) v)
      ],
    )

pub loop-i-preserved : goal.loop-i-preserved
loop-i-preserved c =
    let p = c.args.problem.now in
    let cs = c.args.charges.now in
    record {
      tests = below_more (AreTestsPossible p cs) c.loop-i.i c.loop-i.invariant.tests (c.in_ok-tests.ensures.0 c.if-not-tests.false);
      hops = below_more (AreHopsPossible p cs) c.loop-i.i c.loop-i.invariant.hops (c.in_ok-hops.ensures.0 c.if-not-hops.false);
    }
