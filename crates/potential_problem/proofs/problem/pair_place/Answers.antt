use Rattle.std.proofs.Common.{arith, suc}
use Rattle.potential_problem.proofs.Places.{pairs_before-twice, pairs_before-le}
use Rattle.potential_problem.proofs.problem.pair_place.Goals as goal

pub returns-clause-value : goal.returns-clause-value
returns-clause-value c = omega (arith, pairs_before-twice c.args.sites c.args.first (omega arith))

pub returns-clause-within : goal.returns-clause-within
returns-clause-within c =
    omega (arith, pairs_before-twice c.args.sites c.args.first (omega arith), pairs_before-le c.args.sites (suc c.args.first) c.args.sites (omega arith))
