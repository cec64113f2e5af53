use Rattle.prefix_rows.proofs.Fewer.{one_fewer}
use Rattle.prefix_rows.proofs.rows.fewer_unassigned.Goals as goal

pub returns : goal.returns
returns c = one_fewer c.args.problem.now c.args.depth c.args.k c.args.before c.args.span c.plus.result c.negated_where.result.value c.args.may c.sites-valid.ensures.valid c.requires.depth
    c.requires.before c.requires.span c.requires.may c.negated_where.ensures c.plus.ensures.least c.plus.ensures.greatest
