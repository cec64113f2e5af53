use Rattle.std.proofs.Common.{◌∙◌, ap, ◌++◌, ◌∷◌, [], arith}
use Rattle.potential_table.specs.TableRows.{near_line}
use Rattle.potential_table.proofs.PushLemmas.{one_more_number}
use Rattle.potential_table.proofs.lines.push_near_at.Goals as goal

pub loop-a-preserved : goal.loop-a-preserved
loop-a-preserved c = one_more_number (near_line c.args.problem.now c.args.i) c.args.lines.now.items c.loop-a.lines.items _ 0 c.loop-a.a (omega arith) c.loop-a.invariant (c.in_ok-push.ensures.items ∙ ap (λ l. c.loop-a.lines.items ++ l ∷ []) c.near_of.ensures)
