use Rattle.std.proofs.Common.{sym}
use Rattle.prefix_extremes.proofs.Splits.{least_split, greatest_split}
use Rattle.prefix_extremes.proofs.extremes.potential_extremes.Goals as goal

pub returns-clause-least : goal.returns-clause-least
returns-clause-least c = rw (c.plus.ensures.least, c.assigned.ensures.least, c.unassigned.ensures.least, c.len-depth.ensures.value, c.sites.ensures.value)
    (sym (least_split c.args.problem.now c.args.prefix.now c.args.k c.requires.short))

pub returns-clause-greatest : goal.returns-clause-greatest
returns-clause-greatest c = rw (c.plus.ensures.greatest, c.assigned.ensures.greatest, c.unassigned.ensures.greatest, c.len-depth.ensures.value, c.sites.ensures.value)
    (sym (greatest_split c.args.problem.now c.args.prefix.now c.args.k c.requires.short))
