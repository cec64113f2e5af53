use Rattle.std.proofs.Common.{◌∙◌, ap, sym, ℕ, List, ◌∷◌, ◌++◌, codes, string_bytes}
use Rattle.std.specs.List.{join_with_byte}
use Rattle.charge_state.specs.Text.{charges_text}
use Rattle.entry_lines.specs.EntryLines.{mark_words, span_words}
use Rattle.sim_report.proofs.RowLemmas.{join_append}
use Rattle.sim_report.proofs.lists.energy_line.Goals as goal

pub returns : goal.returns
returns c =
    let end : List ℕ = 32 ∷ join_with_byte 32 (codes "energy" ∷ span_words c.args.span) in
    c.in_ok-format.ensures.ok ∙ ap (λ (energy : List ℕ). string_bytes c.in_ok-line.line ++ 32 ∷ energy) c.in_ok-energy.ensures ∙ ap (λ (text : List ℕ). text ++ end) c.in_ok-line.ensures ∙ sym (join_append (charges_text c.args.entry.now.charges) (mark_words c.args.entry.now.mark) (codes "energy") (span_words c.args.span))
