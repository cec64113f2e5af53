use Rattle.screened_coulomb.proofs.RuleLemmas.{one_span}
use Rattle.screened_coulomb.proofs.laws.one_rounded_span.Goals as goal

pub returns : goal.returns
returns c = one_span
