use Rattle.std.proofs.Common.{arith}
use Rattle.leaf_rules.proofs.DemandLemmas.{says_true}
use Rattle.level_candidates.proofs.ends.all_hops_hold.Goals as goal

pub returns : goal.returns
returns c = says_true (λ i l. c.loop-i.invariant i (omega (arith, l, c.loop-i-test.false, c.loop-i.auto.i-end, c.sites-i-end.ensures.value)))
