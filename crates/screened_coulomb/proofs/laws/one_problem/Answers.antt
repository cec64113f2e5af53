use Rattle.screened_coulomb.proofs.OneProblem.{one_problem}
use Rattle.screened_coulomb.proofs.laws.one_problem.Goals as goal

pub returns : goal.returns
returns c = one_problem c.one_classing.ensures
