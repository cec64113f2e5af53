use Rattle.std.proofs.Common.{◌∙◌, arith}
use Rattle.charge_model.specs.GroundList.{lists_of}
use Rattle.walk_model.specs.Walks.{raised_bound}
use Rattle.certificate_walk.proofs.Opening.{tokens_of}
use Rattle.certificate_walk.proofs.whole.walk_within.Goals as goal

pub walk_tree-requires-clause-fits : goal.walk_tree-requires-clause-fits
walk_tree-requires-clause-fits g c =
    let p = c.args.problem.now in
    let w = c.args.window.width in
    let o = raised_bound w c.args.bound in
    let l = lists_of c.args.list.now in
    let written = c.each_problem_has_written_tokens.ensures p w c.args.list.now c.args.bound c.sites-known.ensures.valid c.args.window.is_window.least c.requires.list c.requires.bound in
    let few = c.nodes_have_few_tokens.ensures p w o l written.0 written.1 in
    let room = c.requires.room in
    let nodes = c.requires.few in
    let taken = room.2 in
    record {
      taken = room.0;
      tokens = written.0;
      known = room.1;
      of_kind = tokens_of c.in-Ok.guide p w o l written.0
          c.in-Ok.ensures.problem c.in-Ok.ensures.window (c.in-Ok.ensures.threshold ∙ c.threshold_of-threshold.ensures) c.in-Ok.ensures.lists written.1;
      fits = omega (arith, few, nodes, taken);
    }
