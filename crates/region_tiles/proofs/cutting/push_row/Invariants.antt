use Rattle.std.proofs.Common.{◌++◌, List, map, take}
use Rattle.std.specs.List.{AllZip}
use Rattle.region_tiles.specs.Rectangles.{HasSides, Sides, sides_of}
use Rattle.region_tiles.proofs.cutting.push_row.Given as goal

abbrev pub invariant-loop-j : goal.invariant-loop-j
invariant-loop-j l = (seen : List Sides) → AllZip (HasSides l.params) seen l.initial.rectangles.items → AllZip (HasSides l.params) (seen ++ map (sides_of l.eps) (take l.j l.lam)) l.rectangles.items
