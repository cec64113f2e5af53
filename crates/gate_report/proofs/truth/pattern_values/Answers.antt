use Rattle.std.proofs.Common.{◌∙◌, ◌++◌, ◌∷◌, [], ap, map, arith}
use Rattle.std.proofs.lemmas.List.{map-append}
use Rattle.serde_json.specs.View.{view}
use Rattle.gate_report.specs.GateJson.{patterns_data}
use Rattle.gate_report.proofs.Behind.{all_done, one_more, pattern_item, pattern_item_ends, pattern_item_steps}
use Rattle.gate_report.proofs.truth.pattern_values.Goals as goal

pub loop-k-preserved : goal.loop-k-preserved
loop-k-preserved c =
    one_more patterns_data pattern_item pattern_item_steps pattern_item_ends c.args.truth.now c.loop-k.k c.at.result.now _ _ _ c.at.ensures c.loop-k.invariant
    (ap (map view) c.in_ok-push.ensures.items ∙ map-append view c.loop-k.values.items (c.in_ok-pattern_value.field-0 ∷ []) ∙ ap (λ d. map view c.loop-k.values.items ++ d ∷ []) c.in_ok-pattern_value.ensures)

pub returns : goal.returns
returns c = all_done patterns_data pattern_item pattern_item_steps pattern_item_ends c.args.truth.now c.loop-k.k _ _ (omega arith) c.loop-k.invariant
