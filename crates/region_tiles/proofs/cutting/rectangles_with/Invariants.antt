use Rattle.std.proofs.Common.{take}
use Rattle.region_tiles.specs.Rectangles.{AreRectangles}
use Rattle.region_tiles.proofs.cutting.rectangles_with.Given as goal

abbrev pub invariant-loop-i : goal.invariant-loop-i
invariant-loop-i l = AreRectangles l.params (take l.i l.eps) l.lam l.rectangles.items
