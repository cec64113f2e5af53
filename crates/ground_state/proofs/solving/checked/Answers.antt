use Rattle.std.proofs.Common.{ap, arith}
use Rattle.charge_model.specs.Tree.{node_count}
use Rattle.ground_state.proofs.solving.checked.Goals as goal

pub checked_nodes-requires-clause-few : goal.checked_nodes-requires-clause-few
checked_nodes-requires-clause-few g c =
    let within = c.requires.within in
    let limit = c.requires.limit in omega (arith, within, limit)

pub returns-in-Ok : goal.returns-in-Ok
returns-in-Ok g c =
    let count = ap (node_count c.args.problem.now) c.requires.reach.end in
    let within = c.requires.within in
    let nodes = c.in-Ok.ensures in record {
      list = c.requires.list;
      bound = c.requires.reach.bound;
      nodes = omega (arith, count, nodes);
      within = omega (arith, within, nodes);
    }
