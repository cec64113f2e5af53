use Rattle.population_rule.proofs.Verdicts.{always_exactly, never_exactly}
use Rattle.population_rule.proofs.rule.population.Goals as goal

pub returns-clause-always : goal.returns-clause-always
returns-clause-always c =
    let table = c.problems_have_tables.ensures c.args.problem.now c.sites-known.ensures.valid in
    always_exactly c.args.problem.now c.args.charges.now c.args.i c.in_ok-verdict.verdict table c.in_ok-verdict.ensures.verdict

pub returns-clause-never : goal.returns-clause-never
returns-clause-never c =
    let table = c.problems_have_tables.ensures c.args.problem.now c.sites-known.ensures.valid in
    never_exactly c.args.problem.now c.args.charges.now c.args.i c.in_ok-verdict.verdict table c.in_ok-verdict.ensures.verdict
