use Rattle.std.proofs.Common.{codes, decimal, refl}
use Rattle.fault_lines.proofs.LineLemmas.{three_words}
use Rattle.fault_lines.proofs.table_faults.pair_line.Goals as goal

pub returns : goal.returns
returns c = three_words (codes "fault input table ") c.args.word.now (decimal c.args.first) (decimal c.args.second) _ _ c.in_ok-format.ensures.ok refl
