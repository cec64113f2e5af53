use Rattle.std.proofs.Common.{◌∙◌, ◌∷◌, [], codes, map}
use Rattle.region_report.specs.RegionText.{area_rows, tile_row}
use Rattle.region_report.proofs.Behind.{three_parts}
use Rattle.region_report.proofs.lines.region_text.Goals as goal

pub returns : goal.returns
returns c =
    three_parts ((codes "sidb-region" ∷ codes "1" ∷ []) ∷ []) (map tile_row c.args.tiles.now) (area_rows c.args.tiles.now) _ _ _ _ _
    c.in_ok-text.ensures.ok (c.deref.ensures ∙ c.in_ok-lines.ensures) (c.deref-2.ensures ∙ c.in_ok-areas.ensures) c.in_ok-push_str.ensures.bytes c.in_ok-push_str-2.ensures.bytes
