use Rattle.std.proofs.Common.{arith}
use Rattle.task_gen.proofs.Generated.{all_generated, one_more_site}
use Rattle.task_gen.proofs.generator.generated_sites.Goals as goal

pub loop-i-preserved : goal.loop-i-preserved
loop-i-preserved c = record {
  near = omega arith;
  rest = one_more_site c.args.count c.loop-i.i c.loop-i.state c.loop-i.column c.site_after-next.result.site c.site_after-next.result.column c.site_after-next.result.state _ _ _ (omega arith) c.loop-i.invariant.rest c.in_ok-push.ensures.items c.site_after-next.ensures.site c.site_after-next.ensures.column c.site_after-next.ensures.state;
}

pub returns : goal.returns
returns c = all_generated c.args.count c.loop-i.i c.loop-i.state c.loop-i.column _ _ (omega arith) c.loop-i.invariant.rest
