use Rattle.std.proofs.Common.{◌≡◌, map}
use Rattle.std.specs.List.{range_with_len}
use Rattle.region_tiles.specs.Sides.{step_at}
use Rattle.region_tiles.proofs.sides.steps_of.Given as goal

abbrev pub invariant-loop-k : goal.invariant-loop-k
invariant-loop-k l = l.steps.items ≡ map (step_at l.axis) (range_with_len 0 l.k)
