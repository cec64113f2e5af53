use Rattle.narrower_laws.proofs.Counts.{no_more_nodes}
use Rattle.narrower_laws.proofs.laws.narrower_problems_take_no_more_nodes.Goals as goal

pub returns : goal.returns
returns c = λ wide narrow b d valid is. no_more_nodes c.energies_have_greatest_values.ensures wide narrow is valid b d
