use Rattle.std.proofs.Common.{codes, decimal, refl}
use Rattle.fault_lines.proofs.LineLemmas.{two_words}
use Rattle.fault_lines.proofs.layout_lines.byte_line.Goals as goal

pub returns : goal.returns
returns c = two_words (codes "fault input ") c.args.word.now (decimal c.args.at) _ _ c.in_ok-format.ensures.ok refl
