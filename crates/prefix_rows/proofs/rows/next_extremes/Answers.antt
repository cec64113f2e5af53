use Rattle.prefix_rows.proofs.Written.{assigned_pushed}
use Rattle.prefix_rows.proofs.rows.next_extremes.Goals as goal

pub returns : goal.returns
returns c = assigned_pushed c.args.problem.now c.args.prefix.now c.args.charge c.args.k c.args.before c.args.span c.charged.result c.plus.result c.requires.before c.requires.span
    c.charged.ensures.least c.charged.ensures.greatest c.charged.ensures.small c.plus.ensures.least c.plus.ensures.greatest
