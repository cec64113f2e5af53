use Rattle.prefix_rows.proofs.Depths.{part_pushed}
use Rattle.prefix_rows.proofs.parts.next_part.Goals as goal

pub returns : goal.returns
returns c = part_pushed c.args.problem.now c.args.prefix.now c.args.charge c.args.before c.args.own c.cost.result.value c.added.result.value c.requires.before c.requires.own c.cost.ensures.value c.cost.ensures.small c.added.ensures
