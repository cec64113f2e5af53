use Rattle.std.proofs.Common.{◌∙◌, map, arith}
use Rattle.std.proofs.lemmas.List.{length-map}
use Rattle.std.specs.Prelude.{zip}
use Rattle.std.proofs.lemmas.Slice.Zip.{length-zip}
use Rattle.ground_entries.specs.Seen.{seen}
use Rattle.sim_report.specs.OccupationText.{share_row}
use Rattle.sim_report.proofs.RowLemmas.{one_more_row, all_rows, row_at}
use Rattle.sim_report.proofs.Numbered.{zipped_at}
use Rattle.sim_report.proofs.shares.share_lines.Goals as goal

pub loop-j-preserved : goal.loop-j-preserved
loop-j-preserved c =
    let both = zipped_at c.args.list.now c.args.shares.now c.loop-j.j (seen c.entry.result.now) c.share_at-share.result c.entry.ensures c.share_at-share.ensures.value in
    one_more_row (map share_row (zip c.args.list.now c.args.shares.now)) c.loop-j.j (share_row (seen c.entry.result.now, c.share_at-share.result)) _ _ _ (row_at share_row (zip c.args.list.now c.args.shares.now) c.loop-j.j _ both) c.loop-j.invariant (c.deref.ensures ∙ c.in_ok-line.ensures) c.in_ok-push_row.ensures

pub returns : goal.returns
returns c =
    all_rows (map share_row (zip c.args.list.now c.args.shares.now)) c.loop-j.j _ (omega (arith, length-map (zip c.args.list.now c.args.shares.now) share_row, length-zip c.args.list.now c.args.shares.now)) c.loop-j.invariant
