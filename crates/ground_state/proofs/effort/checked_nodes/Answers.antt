use Rattle.std.proofs.Common.{ap, arith}
use Rattle.charge_model.specs.Tree.{node_count}
use Rattle.ground_state.proofs.effort.checked_nodes.Goals as goal

pub walk_checked-requires-clause-few : goal.walk_checked-requires-clause-few
walk_checked-requires-clause-few g c =
    let count = ap (node_count c.args.problem.now) c.requires.reach.end in
    let few = c.requires.few in omega (arith, count, few)
