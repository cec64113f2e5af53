use Rattle.operational_domain.proofs.FirstReason.{verdict_at}
use Rattle.operational_domain.specs.Patterns.{wanted_at}
use Rattle.bdl_pairs.specs.declared.verdicts.PatternVerdict.TheVariants.{Works as PatternWorks}
use Rattle.operational_domain.proofs.laws.working_patterns_read_their_bits.Goals as goal

pub returns : goal.returns
returns c = λ s k has.
    let a = has.of_pattern in
    let says = verdict_at s k PatternWorks has in
    record {
      left = a.left;
      problem = a.problem;
      of_pattern = a.of_pattern;
      there = c.working_patterns_have_ground_states.ensures a.problem a.left.outputs (wanted_at s.gate k) has.answer.list a.listed.list says;
      right = c.working_patterns_read_the_bit.ensures a.problem a.left.outputs (wanted_at s.gate k) has.answer.list a.listed.list says;
    }
