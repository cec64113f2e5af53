use Rattle.sqd_elements.proofs.KeptLemmas.{inside_one}
use Rattle.sqd_elements.proofs.laws.kept_of_one.Goals as goal

pub returns : goal.returns
returns c = inside_one
