use Rattle.charge_model.specs.GroundList.{lists_of}
use Rattle.narrower_lists.proofs.PossibleLemmas.{WeighedTo}
use Rattle.narrower_lists.proofs.possible.possible_entries.Given as goal

abbrev pub invariant-loop-k : goal.invariant-loop-k
invariant-loop-k l = WeighedTo l.problem (lists_of l.list) l.k l.found.items
