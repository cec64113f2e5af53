use Rattle.gate_model.proofs.PairLemmas.{same_pairs}
use Rattle.gate_model.specs.Pairs.{parts}
use Rattle.gate_model.proofs.laws.one_pair_list.Goals as goal

pub returns : goal.returns
returns c = λ most text a b e f. same_pairs c.one_reading.ensures.value (parts text) a b e.each f.each
