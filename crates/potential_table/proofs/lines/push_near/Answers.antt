use Rattle.potential_table.specs.TableRows.{near_at}
use Rattle.potential_table.proofs.PushLemmas.{one_more_site}
use Rattle.potential_table.proofs.lines.push_near.Goals as goal

pub loop-i-preserved : goal.loop-i-preserved
loop-i-preserved c = one_more_site (near_at c.args.problem.now) c.args.lines.now.items c.loop-i.lines.items _ c.loop-i.i c.loop-i.invariant c.in_ok-push_near_at.ensures
