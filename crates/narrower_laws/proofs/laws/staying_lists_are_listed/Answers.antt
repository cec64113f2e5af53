use Rattle.narrower_laws.proofs.NarrowerLemmas.{listed_exactly}
use Rattle.narrower_laws.proofs.laws.staying_lists_are_listed.Goals as goal

pub returns : goal.returns
returns c = λ wide narrow l e valid is list. listed_exactly (record {
  has_table = c.problems_have_tables.ensures;
  small = c.energies_are_small.ensures;
  transitive = c.beating_is_transitive.ensures;
}) wide narrow l valid is list e
