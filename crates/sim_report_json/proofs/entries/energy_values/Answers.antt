use Rattle.std.proofs.Common.{map, arith}
use Rattle.std.specs.Prelude.{zip}
use Rattle.std.proofs.lemmas.List.{length-map}
use Rattle.std.proofs.lemmas.Slice.Zip.{length-zip}
use Rattle.ground_entries.specs.Seen.{seen}
use Rattle.sim_report_json.specs.GroundJson.{entry_with_energy}
use Rattle.sim_report_json.proofs.Items.{one_more_item, all_items, zipped_at}
use Rattle.sim_report_json.proofs.entries.energy_values.Goals as goal

pub loop-j-preserved : goal.loop-j-preserved
loop-j-preserved c =
    let both = zipped_at c.args.list.now c.args.spans.now c.loop-j.j (seen c.entry.result.now) c.span_at-span.result c.entry.ensures c.span_at-span.ensures in
    one_more_item entry_with_energy (zip c.args.list.now c.args.spans.now) c.loop-j.j _ _ _ _ both c.loop-j.invariant c.in_ok-entry_value.ensures c.in_ok-push.ensures.items

pub returns : goal.returns
returns c =
    all_items (map entry_with_energy (zip c.args.list.now c.args.spans.now)) c.loop-j.j _ (omega (arith, length-map (zip c.args.list.now c.args.spans.now) entry_with_energy, length-zip c.args.list.now c.args.spans.now)) c.loop-j.invariant
