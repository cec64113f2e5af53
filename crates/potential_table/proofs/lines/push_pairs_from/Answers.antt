use Rattle.std.proofs.Common.{◌∙◌, ap, ◌++◌, ◌∷◌, [], suc, arith}
use Rattle.potential_table.specs.TableRows.{pair_line}
use Rattle.potential_table.proofs.PushLemmas.{one_more_number}
use Rattle.potential_table.proofs.lines.push_pairs_from.Goals as goal

pub loop-j-preserved : goal.loop-j-preserved
loop-j-preserved c = one_more_number (pair_line c.args.problem.now c.args.i) c.args.lines.now.items c.loop-j.lines.items _ (suc c.args.i) c.loop-j.j (omega arith) c.loop-j.invariant (c.in_ok-push.ensures.items ∙ ap (λ l. c.loop-j.lines.items ++ l ∷ []) c.pair_of.ensures)
