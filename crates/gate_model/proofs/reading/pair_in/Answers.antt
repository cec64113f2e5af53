use Rattle.gate_model.proofs.PairLemmas.{no_first, no_second}
use Rattle.gate_model.proofs.reading.pair_in.Goals as goal

pub returns-in_default-place_in-clause-none : goal.returns-in_default-place_in-clause-none
returns-in_default-place_in-clause-none c = no_first c.args.part.now _ _ c.in-Some.ensures.found c.in_default-place_in.ensures.none

pub returns-in_default-place_in-2-clause-none : goal.returns-in_default-place_in-2-clause-none
returns-in_default-place_in-2-clause-none c = no_second c.args.part.now _ _ c.in-Some.ensures.found c.in_default-place_in-2.ensures.none
