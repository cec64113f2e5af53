use Rattle.std.proofs.Common.{◌-◌, take}
use Rattle.region_tiles.specs.Added.{AddsTiles}
use Rattle.region_tiles.specs.Refined.{AreJoined, IsRefined}
use Rattle.region_tiles.proofs.tiling.+add_tiles.Given as goal

-- how often a rectangle may still be cut
abbrev pub decreases-add_tiles : goal.decreases-add_tiles
decreases-add_tiles g l = l.depth

abbrev pub invariant-loop-k : goal.invariant-loop-k
invariant-loop-k g l = AddsTiles (AreJoined (IsRefined (g.J.Judge.says l.judge) (l.depth - 1)) (take l.k l.parts.items)) l.initial.tiles.items l.tiles.items
