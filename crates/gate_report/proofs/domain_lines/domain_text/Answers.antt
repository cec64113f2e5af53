use Rattle.std.proofs.Common.{◌∙◌, ◌∷◌, [], codes, map, refl}
use Rattle.gate_report.specs.DomainText.{cell_row}
use Rattle.gate_report.proofs.Behind.{three_parts}
use Rattle.gate_report.proofs.domain_lines.domain_text.Goals as goal

pub returns : goal.returns
returns c =
    three_parts ((codes "sidb-domain" ∷ codes "1" ∷ []) ∷ []) (map cell_row c.args.cells.now) ((codes "end" ∷ []) ∷ []) _ _ _ _ _ c.in_ok-text.ensures.ok (c.deref.ensures ∙ c.in_ok-lines.ensures) refl c.in_ok-push_str.ensures.bytes c.in_ok-push_str-2.ensures.bytes
