use Rattle.std.proofs.Common.{◌∙◌, ap, sym, Some, arith}
use Rattle.std.proofs.lemmas.Option.{slice_get-get_or}
use Rattle.sidb_layout.specs.Site.{origin}
use Rattle.sim_report.specs.GroundText.{site_row}
use Rattle.sim_report.proofs.Numbered.{one_more_numbered, all_numbered}
use Rattle.sim_report.proofs.layout.site_lines.Goals as goal

pub loop-i-preserved : goal.loop-i-preserved
loop-i-preserved c =
    let here = slice_get-get_or c.args.layout.now.sites c.loop-i.i origin (omega arith) ∙ ap Some (sym c.site.ensures) in
    one_more_numbered site_row c.args.layout.now.sites c.loop-i.i c.site.result _ _ _ here c.loop-i.invariant (c.deref.ensures ∙ c.in_ok-line.ensures) c.in_ok-push_row.ensures

pub returns : goal.returns
returns c = all_numbered site_row c.args.layout.now.sites c.loop-i.i _ (omega arith) c.loop-i.invariant
