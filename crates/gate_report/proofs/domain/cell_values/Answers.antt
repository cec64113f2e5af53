use Rattle.std.proofs.Common.{◌∙◌, ◌++◌, ◌∷◌, [], ap, map, arith}
use Rattle.std.proofs.lemmas.List.{map-append}
use Rattle.serde_json.specs.View.{view}
use Rattle.gate_report.proofs.Behind.{all_done, one_more, cell_item, cell_items_due, cell_item_ends, cell_item_steps}
use Rattle.gate_report.proofs.domain.cell_values.Goals as goal

pub loop-k-preserved : goal.loop-k-preserved
loop-k-preserved c =
    one_more cell_items_due cell_item cell_item_steps cell_item_ends c.args.cells.now c.loop-k.k c.cell_in.result _ _ _ c.cell_in.ensures.value c.loop-k.invariant
    (ap (map view) c.in_ok-push.ensures.items ∙ map-append view c.loop-k.values.items (c.in_ok-cell_value.field-0 ∷ []) ∙ ap (λ d. map view c.loop-k.values.items ++ d ∷ []) c.in_ok-cell_value.ensures)

pub returns : goal.returns
returns c = all_done cell_items_due cell_item cell_item_steps cell_item_ends c.args.cells.now c.loop-k.k _ _ (omega arith) c.loop-k.invariant
