use Rattle.std.proofs.Common.{◌∙◌, ap, codes, decimal, [], ◌∷◌, ◌++◌, refl}
use Rattle.fault_lines.specs.CertificateLines.{close_word}
use Rattle.fault_lines.proofs.LineLemmas.{two_words}
use Rattle.fault_lines.proofs.certificate_faults.token_line.Goals as goal

pub returns : goal.returns
returns c =
    two_words (codes "fault certificate token ") (decimal c.args.k) (close_word c.args.why) _ _ (c.in_ok-format.ensures.ok ∙ ap (λ word. codes "fault certificate token " ++ (decimal c.args.k ++ 32 ∷ (word ++ 10 ∷ []))) c.close_word-word.ensures) refl
