use Rattle.command_words.proofs.SomeMeaning.{settings_or_none}
use Rattle.command_words.proofs.laws.some_meaning.Goals as goal

pub returns : goal.returns
returns c =
    settings_or_none
    (record { some = c.one_reading.ensures.some; no_fault = c.one_reading.ensures.no_fault })
    c.one_reading.ensures.value
    (record {
      one_pairs = c.one_pair_list.ensures;
      some_pairs = c.some_pair_list.ensures;
      some_functions = c.some_function.ensures;
      some_grids = c.some_grid.ensures;
      distinct = c.distinct_or_not.ensures;
      gates = c.gate_or_not.ensures;
    })
    c.one_groups.ensures
