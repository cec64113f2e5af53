use Rattle.prefix_rows.proofs.Depths.{parts_pushed}
use Rattle.prefix_rows.proofs.parts.add_part.Goals as goal

pub returns : goal.returns
returns c = parts_pushed c.args.problem.now c.args.prefix.now c.args.charge _ c.len-depth.result _ c.len-depth.ensures.value c.requires.room c.requires.parts c.next_part.ensures
