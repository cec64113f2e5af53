use Rattle.operational_domain.proofs.OnePattern.{PartsAreOne, first_over_or_long, same_table, table_or_long, table_or_over}
use Rattle.operational_domain.proofs.laws.one_table.Goals as goal

pub returns-clause-table : goal.returns-clause-table
returns-clause-table c =
    let parts : PartsAreOne = record {
      problem = c.one_problem.ensures;
      list = c.one_answer.ensures.list;
      length = c.one_answer.ensures.length;
      budget = c.one_answer.ensures.budget;
      verdict = c.entries_have_one_verdict.ensures;
    } in
    λ s n t u valid. same_table parts s valid n t u

pub returns-clause-not_over : goal.returns-clause-not_over
returns-clause-not_over c =
    let parts : PartsAreOne = record {
      problem = c.one_problem.ensures;
      list = c.one_answer.ensures.list;
      length = c.one_answer.ensures.length;
      budget = c.one_answer.ensures.budget;
      verdict = c.entries_have_one_verdict.ensures;
    } in
    λ s t valid. table_or_over parts s valid t

pub returns-clause-not_long : goal.returns-clause-not_long
returns-clause-not_long c =
    let parts : PartsAreOne = record {
      problem = c.one_problem.ensures;
      list = c.one_answer.ensures.list;
      length = c.one_answer.ensures.length;
      budget = c.one_answer.ensures.budget;
      verdict = c.entries_have_one_verdict.ensures;
    } in
    λ s t valid. table_or_long parts s valid t

pub returns-clause-over_or_long : goal.returns-clause-over_or_long
returns-clause-over_or_long c =
    let parts : PartsAreOne = record {
      problem = c.one_problem.ensures;
      list = c.one_answer.ensures.list;
      length = c.one_answer.ensures.length;
      budget = c.one_answer.ensures.budget;
      verdict = c.entries_have_one_verdict.ensures;
    } in
    λ s valid. first_over_or_long parts s valid
