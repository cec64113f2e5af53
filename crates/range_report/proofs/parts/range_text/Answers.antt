use Rattle.std.proofs.Common.{◌∙◌, ap, refl, length}
use Rattle.text_rows.specs.Rows.{text_of, end_rows}
use Rattle.range_report.specs.RangeText.{range_title_rows, parts_rows}
use Rattle.range_report.proofs.Behind.{three_parts}
use Rattle.range_report.proofs.parts.range_text.Goals as goal

pub returns : goal.returns
returns c =
    let front = c.in_ok-text.ensures ∙ ap (λ n. text_of (range_title_rows c.args.sites n)) c.len.ensures in
    record { text = three_parts (range_title_rows c.args.sites (length c.args.parts.now)) (parts_rows c.args.parts.now) end_rows _ _ _ _ _ front (c.deref.ensures ∙ c.in_ok-lines.ensures) refl c.in_ok-push_str.ensures.bytes c.in_ok-push_str-2.ensures.bytes }
