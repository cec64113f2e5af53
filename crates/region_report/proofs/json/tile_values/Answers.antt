use Rattle.std.proofs.Common.{◌∙◌, ◌++◌, ◌∷◌, [], ap, map, refl, arith}
use Rattle.std.proofs.lemmas.List.{map-append}
use Rattle.serde_json.specs.View.{view}
use Rattle.region_report.proofs.Behind.{all_done, item_part, item_steps, items_due, one_more}
use Rattle.region_report.proofs.json.tile_values.Goals as goal

pub loop-k-preserved : goal.loop-k-preserved
loop-k-preserved c =
    one_more items_due item_part item_steps refl c.args.tiles.now c.loop-k.k c.tile_in.result _ _ _ c.tile_in.ensures c.loop-k.invariant
    (ap (map view) c.in_ok-push.ensures.items ∙ map-append view c.loop-k.values.items (c.in_ok-tile_value.field-0 ∷ []) ∙ ap (λ d. map view c.loop-k.values.items ++ d ∷ []) c.in_ok-tile_value.ensures)

pub returns : goal.returns
returns c = all_done items_due item_part item_steps refl c.args.tiles.now c.loop-k.k _ _ (omega arith) c.loop-k.invariant
