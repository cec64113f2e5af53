use Rattle.std.proofs.Common.{None}
use Rattle.ground_entries.specs.Seen.{seen}
use Rattle.sim_report_json.specs.Parts.{entry_data}
use Rattle.sim_report_json.proofs.Items.{one_more_item}
use Rattle.sim_report_json.proofs.entries.plain_values.Goals as goal

pub loop-j-preserved : goal.loop-j-preserved
loop-j-preserved c = one_more_item (entry_data None) c.args.list.now c.loop-j.j (seen c.entry.result.now) _ _ _ c.entry.ensures c.loop-j.invariant c.in_ok-entry_value.ensures c.in_ok-push.ensures.items
