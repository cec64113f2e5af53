use Rattle.std.proofs.Common.{map, arith}
use Rattle.std.proofs.lemmas.List.{length-map}
use Rattle.sim_report_json.specs.Parts.{fix_data}
use Rattle.sim_report_json.proofs.Items.{one_more_item, all_items}
use Rattle.sim_report_json.proofs.places.fix_values.Goals as goal

pub loop-a-preserved : goal.loop-a-preserved
loop-a-preserved c = one_more_item fix_data c.args.layout.now.fixes c.loop-a.a c.fix.result _ _ _ c.fix.ensures.value c.loop-a.invariant c.in_ok-fix_value.ensures c.in_ok-push.ensures.items

pub returns : goal.returns
returns c = all_items (map fix_data c.args.layout.now.fixes) c.loop-a.a _ (omega (arith, length-map c.args.layout.now.fixes fix_data)) c.loop-a.invariant
