use Rattle.gate_model.proofs.PairLemmas.{more_than_two}
use Rattle.gate_model.proofs.parts.in_two.Goals as goal

pub returns-in-Some-clause-none : goal.returns-in-Some-clause-none
returns-in-Some-clause-none c = more_than_two _ c.args.text.now _ _ _ _ c.in_ok-first.ensures.parts c.in-Some.ensures.parts
