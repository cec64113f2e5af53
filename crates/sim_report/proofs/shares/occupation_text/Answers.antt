use Rattle.std.proofs.Common.{◌≡◌, ◌∙◌, ap₂, ℕ, w64, length, map, refl, string_bytes}
use Rattle.std.specs.Prelude.{zip}
use Rattle.std.proofs.lemmas.Int.{to_z-of_z}
use mir.Val.{SFits}
use Rattle.text_rows.specs.Rows.{text_of, end_rows}
use Rattle.sim_report.specs.OccupationText.{occupation_title_rows, share_row}
use Rattle.sim_report.proofs.RowLemmas.{three_parts}
use Rattle.sim_report.proofs.shares.occupation_text.Goals as goal

pub returns : goal.returns
returns c =
    let fits : SFits w64 c.args.kt = c.ranges.kt in
    let title : string_bytes c.in_ok-text.text ≡ text_of (occupation_title_rows c.args.window.now.width c.args.kt c.sites.result c.len.result) = simp to_z-of_z at c.in_ok-text.ensures in
    let counted = ap₂ (λ (m n : ℕ). text_of (occupation_title_rows c.args.window.now.width c.args.kt m n)) c.sites.ensures.value c.len.ensures.value in
    record { text = three_parts (occupation_title_rows c.args.window.now.width c.args.kt c.args.problem.now.sites (length c.args.list.now)) (map share_row (zip c.args.list.now c.args.shares.now)) end_rows _ _ _ _ _ (title ∙ counted) (c.deref.ensures ∙ c.in_ok-lines.ensures) refl c.in_ok-push_str.ensures.bytes c.in_ok-push_str-2.ensures.bytes }
