use Rattle.std.proofs.Common.{arith, suc}
use Rattle.charge_model.proofs.Pairs.{pairs_before-twice, pairs_before-le}
use Rattle.sidb_lattice.proofs.classes.pair_place.Goals as goal

pub returns-clause-value : goal.returns-clause-value
returns-clause-value c = omega (arith, pairs_before-twice c.args.sites c.args.first (omega arith))

pub returns-clause-below : goal.returns-clause-below
returns-clause-below c =
    omega (arith, pairs_before-twice c.args.sites c.args.first (omega arith), pairs_before-le c.args.sites (suc c.args.first) c.args.sites (omega arith))
