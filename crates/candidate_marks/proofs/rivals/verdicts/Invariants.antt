use Rattle.candidate_marks.proofs.Filtering.{DecidedTo}
use Rattle.candidate_marks.proofs.rivals.verdicts.Given as goal

abbrev pub invariant-loop-candidate : goal.invariant-loop-candidate
invariant-loop-candidate l = DecidedTo l.problem l.window.width l.all l.candidate-index l.beaten.items
