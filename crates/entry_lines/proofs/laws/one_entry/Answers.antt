use Rattle.std.proofs.Common.{◌≡◌, ◌∙◌, ℕ, List, [], Ok, ap, sym, subst, get_or, drop}
use Rattle.charge_state.specs.Text.{charges_text, IsReading}
use Rattle.entry_lines.specs.EntryLines.{mark_words}
use Rattle.entry_lines.proofs.laws.one_entry.Goals as goal

pub returns : goal.returns
returns c = λ e f few others fits other_fits is.
    let texts : charges_text e.charges ≡ charges_text f.charges = ap (λ (words : List (List ℕ)). get_or words 0 []) is in
    let marks : mark_words e.mark ≡ mark_words f.mark = ap (drop 1) is in
    let read = c.printed_lists_are_read.ensures f.charges others in
    let same = c.texts_have_one_reading.ensures (charges_text e.charges) (Ok e.charges) (Ok f.charges) (c.printed_lists_are_read.ensures e.charges few) (subst (λ text. IsReading text (Ok f.charges)) (sym texts) read) in
    let charges : e.charges ≡ f.charges = cc in
    ap (λ cs. record { charges = cs; mark = e.mark }) charges ∙ ap (λ m. record { charges = f.charges; mark = m }) (c.one_mark.ensures e.mark f.mark fits other_fits marks)
