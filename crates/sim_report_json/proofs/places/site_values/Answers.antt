use Rattle.std.proofs.Common.{◌∙◌, ap, sym, Some, map, arith}
use Rattle.std.proofs.lemmas.Option.{slice_get-get_or}
use Rattle.std.proofs.lemmas.List.{length-map}
use Rattle.sidb_layout.specs.Site.{origin}
use Rattle.sim_report_json.specs.Parts.{site_data}
use Rattle.sim_report_json.proofs.Items.{one_more_item, all_items}
use Rattle.sim_report_json.proofs.places.site_values.Goals as goal

pub loop-i-preserved : goal.loop-i-preserved
loop-i-preserved c =
    let here = slice_get-get_or c.args.layout.now.sites c.loop-i.i origin (omega arith) ∙ ap Some (sym c.site.ensures) in
    one_more_item site_data c.args.layout.now.sites c.loop-i.i c.site.result _ _ _ here c.loop-i.invariant c.in_ok-site_value.ensures c.in_ok-push.ensures.items

pub returns : goal.returns
returns c = all_items (map site_data c.args.layout.now.sites) c.loop-i.i _ (omega (arith, length-map c.args.layout.now.sites site_data)) c.loop-i.invariant
