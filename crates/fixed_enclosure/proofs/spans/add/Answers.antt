use Rattle.std.proofs.Common.{arith}
use Rattle.std.proofs.lemmas.Int.{ints}
use Rattle.fixed_enclosure.proofs.HullLemmas.{sums_hull}
use Rattle.fixed_enclosure.proofs.spans.add.Goals as goal

pub returns-clause-hull : goal.returns-clause-hull
returns-clause-hull c =
    sums_hull c.args.a c.args.b c.span_between.result (omega (arith, ints)) (omega (arith, ints))
