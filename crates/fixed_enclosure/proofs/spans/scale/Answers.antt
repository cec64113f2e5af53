use Rattle.std.proofs.Common.{rules}
use Rattle.fixed_enclosure.proofs.HullLemmas.{ends_of, products_hull}
use Rattle.fixed_enclosure.proofs.spans.scale.Goals as goal

pub returns-clause-lo : goal.returns-clause-lo
returns-clause-lo c =
    (ends_of c.args.a c.args.k c.ordered.result (search rules) (search rules) c.ranges.k c.requires.least c.requires.greatest c.ordered.ensures.lo c.ordered.ensures.hi).0

pub returns-clause-hi : goal.returns-clause-hi
returns-clause-hi c =
    (ends_of c.args.a c.args.k c.ordered.result (search rules) (search rules) c.ranges.k c.requires.least c.requires.greatest c.ordered.ensures.lo c.ordered.ensures.hi).1

pub returns-clause-hull : goal.returns-clause-hull
returns-clause-hull c =
    let ends = ends_of c.args.a c.args.k c.ordered.result (search rules) (search rules) c.ranges.k c.requires.least c.requires.greatest c.ordered.ensures.lo c.ordered.ensures.hi in
    products_hull c.args.a c.ordered.result c.args.k ends.0 ends.1
