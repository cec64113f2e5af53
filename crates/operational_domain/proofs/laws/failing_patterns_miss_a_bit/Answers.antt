use Rattle.operational_domain.proofs.FirstReason.{verdict_at}
use Rattle.operational_domain.specs.Patterns.{wanted_at}
use Rattle.bdl_pairs.specs.declared.verdicts.PatternVerdict.TheVariants.{Fails as PatternFails}
use Rattle.operational_domain.proofs.laws.failing_patterns_miss_a_bit.Goals as goal

pub returns : goal.returns
returns c = λ s k has.
    let a = has.of_pattern in
    record {
      left = a.left;
      problem = a.problem;
      of_pattern = a.of_pattern;
      wrong = c.failing_patterns_miss_the_bit.ensures a.problem a.left.outputs (wanted_at s.gate k) has.answer.list a.listed.list (verdict_at s k PatternFails has);
    }
