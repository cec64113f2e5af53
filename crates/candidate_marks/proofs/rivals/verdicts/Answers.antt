use Rattle.std.proofs.Common.{arith}
use Rattle.candidate_marks.proofs.Filtering.{decided_more}
use Rattle.candidate_marks.proofs.rivals.verdicts.Goals as goal

pub loop-candidate-preserved : goal.loop-candidate-preserved
loop-candidate-preserved c =
    rw c.in_ok-push.ensures.items (decided_more c.args.problem.now c.args.window.now.width c.args.all.now c.loop-candidate.candidate-index c.loop-candidate.beaten.items c.candidate-item.result
    c.in_ok-verdict.verdict c.requires c.loop-candidate.invariant (omega arith) c.candidate-item.is c.in_ok-verdict.ensures)
