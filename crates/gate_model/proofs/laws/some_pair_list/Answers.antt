use Rattle.gate_model.proofs.PairTexts.{some_list}
use Rattle.gate_model.proofs.laws.some_pair_list.Goals as goal

pub returns : goal.returns
returns c = some_list (record {
  some = c.one_reading.ensures.some;
  no_fault = c.one_reading.ensures.no_fault;
})
