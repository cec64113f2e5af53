use Rattle.command_words.proofs.MeaningLemmas.{one_settings}
use Rattle.command_words.proofs.laws.one_groups.Goals as goal

pub returns : goal.returns
returns c = one_settings c.one_reading.ensures.value c.one_params.ensures (record {
  pairs = c.one_pair_list.ensures;
  functions = c.one_function.ensures;
  grids = c.one_grid.ensures;
})
