use Rattle.operational_domain.proofs.OnePattern.{PartsAreOne, not_long, not_over, over_or_long, same_answer}
use Rattle.operational_domain.proofs.laws.one_pattern_answer.Goals as goal

pub returns-clause-answer : goal.returns-clause-answer
returns-clause-answer c =
    let parts : PartsAreOne = record {
      problem = c.one_problem.ensures;
      list = c.one_answer.ensures.list;
      length = c.one_answer.ensures.length;
      budget = c.one_answer.ensures.budget;
      verdict = c.entries_have_one_verdict.ensures;
    } in
    λ s k x y valid. same_answer parts s valid k x y

pub returns-clause-not_over : goal.returns-clause-not_over
returns-clause-not_over c =
    let parts : PartsAreOne = record {
      problem = c.one_problem.ensures;
      list = c.one_answer.ensures.list;
      length = c.one_answer.ensures.length;
      budget = c.one_answer.ensures.budget;
      verdict = c.entries_have_one_verdict.ensures;
    } in
    λ s k x valid. not_over parts s valid k x

pub returns-clause-not_long : goal.returns-clause-not_long
returns-clause-not_long c =
    let parts : PartsAreOne = record {
      problem = c.one_problem.ensures;
      list = c.one_answer.ensures.list;
      length = c.one_answer.ensures.length;
      budget = c.one_answer.ensures.budget;
      verdict = c.entries_have_one_verdict.ensures;
    } in
    λ s k x valid. not_long parts s valid k x

pub returns-clause-over_or_long : goal.returns-clause-over_or_long
returns-clause-over_or_long c =
    let parts : PartsAreOne = record {
      problem = c.one_problem.ensures;
      list = c.one_answer.ensures.list;
      length = c.one_answer.ensures.length;
      budget = c.one_answer.ensures.budget;
      verdict = c.entries_have_one_verdict.ensures;
    } in
    λ s k valid. over_or_long parts s valid k
