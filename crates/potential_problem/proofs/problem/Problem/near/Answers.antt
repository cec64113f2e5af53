use Rattle.std.proofs.Common.{arith, ap}
use Rattle.charge_model.specs.Problem.{Problem, fixed_count}
use Rattle.potential_problem.specs.Seen.{seen}
use Rattle.potential_problem.proofs.Places.{near_read}
use Rattle.potential_problem.proofs.problem.Problem.near.Goals as goal

pub returns-clause-value : goal.returns-clause-value
returns-clause-value c =
    let sites = ap (λ (p : Problem). p.sites) c.self.view_is in
    let fixed = ap fixed_count c.self.view_is in
    rw (← c.self.view_is) (near_read (seen c.self.inside) c.args.i c.args.a c.fixes.result c.index.result.now c.self.invariant (omega arith) (omega arith) (omega arith) c.index.ensures)
