use Rattle.std.proofs.Common.{◌∙◌, ap, codes, decimal, [], ◌∷◌, ◌++◌, refl}
use Rattle.fault_lines.specs.FaultLines.{why_word}
use Rattle.fault_lines.proofs.LineLemmas.{two_words}
use Rattle.fault_lines.proofs.table_faults.numbered_line.Goals as goal

pub returns : goal.returns
returns c =
    two_words (codes "fault input table line ") (decimal c.args.k) (why_word c.args.why) _ _ (c.in_ok-format.ensures.ok ∙ ap (λ word. codes "fault input table line " ++ (decimal c.args.k ++ 32 ∷ (word ++ 10 ∷ []))) c.why_word-word.ensures) refl
