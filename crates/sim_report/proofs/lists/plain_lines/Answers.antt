use Rattle.std.proofs.Common.{◌∙◌, map}
use Rattle.entry_lines.specs.EntryLines.{entry_words}
use Rattle.ground_entries.specs.Seen.{seen}
use Rattle.sim_report.proofs.RowLemmas.{one_more_row, row_at}
use Rattle.sim_report.proofs.lists.plain_lines.Goals as goal

pub loop-j-preserved : goal.loop-j-preserved
loop-j-preserved c =
    one_more_row (map entry_words c.args.list.now) c.loop-j.j (entry_words (seen c.entry.result.now)) _ _ _ (row_at entry_words c.args.list.now c.loop-j.j _ c.entry.ensures) c.loop-j.invariant (c.deref.ensures ∙ c.in_ok-line.ensures) c.in_ok-push_row.ensures
