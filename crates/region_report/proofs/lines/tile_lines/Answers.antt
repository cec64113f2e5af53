use Rattle.std.proofs.Common.{◌∙◌, refl, arith}
use Rattle.std.specs.List.{join_with_byte}
use Rattle.region_report.specs.RegionText.{tile_row}
use Rattle.region_report.proofs.Behind.{all_done, line_added, line_part, line_steps, lines_due, one_more}
use Rattle.region_report.proofs.lines.tile_lines.Goals as goal

pub loop-k-preserved : goal.loop-k-preserved
loop-k-preserved c = one_more lines_due line_part line_steps refl c.args.tiles.now c.loop-k.k c.tile_in.result _ _ _ c.tile_in.ensures c.loop-k.invariant
    (line_added _ _ (join_with_byte 32 (tile_row c.tile_in.result)) _ _ (c.deref.ensures ∙ c.in_ok-line.ensures) c.in_ok-push_str.ensures.bytes c.in_ok-push_str-2.ensures.bytes)

pub returns : goal.returns
returns c = all_done lines_due line_part line_steps refl c.args.tiles.now c.loop-k.k _ _ (omega arith) c.loop-k.invariant
