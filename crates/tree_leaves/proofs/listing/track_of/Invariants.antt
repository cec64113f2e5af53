use Rattle.std.proofs.Common.{◌≡◌, take}
use Rattle.tree_leaves.proofs.listing.track_of.Given as goal

abbrev pub invariant-loop-k : goal.invariant-loop-k
invariant-loop-k l = (l.track.problem ≡ l.problem) × (l.track.prefix ≡ take l.k l.prefix)
