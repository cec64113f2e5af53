use Rattle.std.proofs.Common.{◌∙◌, ap, Some}
use Rattle.shared_check.proofs.Shares.{one_more}
use Rattle.shared_check.proofs.adding.added.Goals as goal

pub loop-k-preserved : goal.loop-k-preserved
loop-k-preserved c =
    one_more c.args.counts.now c.loop-k.k c.in-Some.n c.args.few c.loop-k.total c.in-Some-plus.more (c.count_at.ensures ∙ ap Some c.in-Some.is) c.loop-k.invariant c.in-Some-plus.ensures
