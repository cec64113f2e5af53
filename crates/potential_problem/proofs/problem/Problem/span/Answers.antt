use Rattle.std.proofs.Common.{length, arith, ap}
use Rattle.charge_model.specs.Problem.{Problem}
use Rattle.potential_problem.proofs.Spans.{span_within}
use Rattle.potential_problem.proofs.problem.Problem.span.Goals as goal

pub returns-clause-least : goal.returns-clause-least
returns-clause-least c =
    let classes = ap (λ (p : Problem). length p.spans) c.self.view_is in
    (span_within c.self.inside.spans.items c.args.class c.index.result.now c.self.invariant.spans (omega arith) c.index.ensures).0

pub returns-clause-greatest : goal.returns-clause-greatest
returns-clause-greatest c =
    let classes = ap (λ (p : Problem). length p.spans) c.self.view_is in
    (span_within c.self.inside.spans.items c.args.class c.index.result.now c.self.invariant.spans (omega arith) c.index.ensures).1
