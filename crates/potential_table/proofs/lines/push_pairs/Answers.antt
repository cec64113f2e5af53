use Rattle.potential_table.specs.TableRows.{pairs_from}
use Rattle.potential_table.proofs.PushLemmas.{one_more_site}
use Rattle.potential_table.proofs.lines.push_pairs.Goals as goal

pub loop-i-preserved : goal.loop-i-preserved
loop-i-preserved c = one_more_site (pairs_from c.args.problem.now) c.args.lines.now.items c.loop-i.lines.items _ c.loop-i.i c.loop-i.invariant c.in_ok-push_pairs_from.ensures
