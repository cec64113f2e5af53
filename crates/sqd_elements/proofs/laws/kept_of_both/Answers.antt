use Rattle.sqd_elements.proofs.KeptLemmas.{inside_append}
use Rattle.sqd_elements.proofs.laws.kept_of_both.Goals as goal

pub returns : goal.returns
returns c = inside_append
