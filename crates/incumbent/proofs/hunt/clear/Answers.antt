use Rattle.std.proofs.Common.{arith, ◌∙◌}
use Rattle.incumbent.proofs.Lists.{length_less, is_empty, not_empty}
use Rattle.incumbent.proofs.hunt.clear.Goals as goal

pub pop-requires-clause-some : goal.pop-requires-clause-some
pop-requires-clause-some c = λ e. let zero = not_empty c.loop-taken.track.prefix e in omega (arith, zero)

pub loop-taken-preserved : goal.loop-taken-preserved
loop-taken-preserved c = record {
  problem = c.pop.ensures.problem ∙ c.loop-taken.invariant.problem;
  left = omega (arith, length_less c.loop-taken.track.prefix c.pop.new.self.prefix c.pop.ensures.prefix);
}

pub returns-clause-empty : goal.returns-clause-empty
returns-clause-empty c = is_empty c.loop-taken.track.prefix (omega arith)
