use Rattle.std.proofs.Common.{◌∙◌, ap, ◌++◌, [], ◌∷◌}
use Rattle.text_rows.specs.Rows.{text_of}
use Rattle.ground_entries.specs.Seen.{seen}
use Rattle.certificate_lines.specs.Lines.{certificate_line_words, entry_line}
use Rattle.prune_certificate.proofs.PrintLemmas.{entry_more}
use Rattle.prune_certificate.proofs.print.push_entries.Goals as goal

pub loop-j-preserved : goal.loop-j-preserved
loop-j-preserved c =
    c.in_ok-push_entry.ensures
    ∙ ap (λ t. t ++ text_of (certificate_line_words (entry_line (seen c.entry.result.now)) ∷ [])) c.loop-j.invariant
    ∙ entry_more c.args.text.now.items c.args.list.now c.loop-j.j (seen c.entry.result.now) c.entry.ensures
