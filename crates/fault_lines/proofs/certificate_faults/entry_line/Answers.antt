use Rattle.std.proofs.Common.{◌∙◌, ap, codes, decimal, [], ◌∷◌, ◌++◌, refl}
use Rattle.fault_lines.specs.CertificateLines.{entry_word}
use Rattle.fault_lines.proofs.LineLemmas.{two_words}
use Rattle.fault_lines.proofs.certificate_faults.entry_line.Goals as goal

pub returns : goal.returns
returns c =
    two_words (codes "fault certificate entry ") (decimal c.args.j) (entry_word c.args.why) _ _ (c.in_ok-format.ensures.ok ∙ ap (λ word. codes "fault certificate entry " ++ (decimal c.args.j ++ 32 ∷ (word ++ 10 ∷ []))) c.entry_word-word.ensures) refl
