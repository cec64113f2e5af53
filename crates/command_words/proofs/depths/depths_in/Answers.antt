use Rattle.std.proofs.Common.{w64}
use Rattle.std.proofs.lemmas.Int.{to_z-of_z}
use mir.Val.{SFits}
use Rattle.command_words.proofs.DepthLemmas.{depth_fits, no_first, no_order, no_second}
use Rattle.command_words.proofs.depths.depths_in.Goals as goal

pub returns-in_default-depth_in-clause-none : goal.returns-in_default-depth_in-clause-none
returns-in_default-depth_in-clause-none c = no_first c.args.text.now _ _ c.in-Some.ensures.found c.in_default-depth_in.ensures.none

pub returns-in_default-depth_in-2-clause-none : goal.returns-in_default-depth_in-2-clause-none
returns-in_default-depth_in-2-clause-none c = no_second c.args.text.now _ _ c.in-Some.ensures.found c.in_default-depth_in-2.ensures.none

pub returns-then-to-from-clause-none : goal.returns-then-to-from-clause-none
returns-then-to-from-clause-none c =
    let from_fits : SFits w64 c.in-Some-depth_in.from = depth_fits _ _ c.in-Some-depth_in.ensures.found in
    let to_fits : SFits w64 c.in-Some-depth_in-2.to = depth_fits _ _ c.in-Some-depth_in-2.ensures.found in
    let below = simp to_z-of_z at c.if-to-from.true in
    no_order c.one_reading.ensures.value c.args.text.now _ _ _ _ c.in-Some.ensures.found c.in-Some-depth_in.ensures.found c.in-Some-depth_in-2.ensures.found (record { lt = rw below tt })
