-- rectangles that tile another, and tiles with their answers
use Rattle.std.specs.Prelude.{◌≡◌, ℕ, ◌*◌, ◌<◌, ◌≤◌, List, All, AllPairs, Contains, map, sum_by}
use Rattle.screened_coulomb.specs.Potential.{eps_of, lam_of}
use Rattle.bdl_pairs.specs.declared.cell.CellAnswer.{CellAnswer}
use Rattle.parameter_regions.specs.declared.rectangles.Rectangle.{Rectangle}
use Rattle.parameter_regions.specs.Points.{Point}
use Rattle.parameter_regions.specs.Rectangles.{IsInRectangle}
use Rattle.region_tiles.specs.Alike.{AreAlike}
use Rattle.region_tiles.specs.Sides.{length_of}
use Rattle.region_tiles.specs.Rectangles.{eps_side, lam_side}
use Rattle.region_tiles.specs.declared.tiles.Tile.{Tile}

-- a rectangle within the borders of another; all else is the same
pub record IsPartOfRectangle (whole part : Rectangle) : Type 0 where
  pub alike : AreAlike whole.weakest part.weakest
  pub eps_from : eps_of whole.strongest ≤ eps_of part.strongest
  pub eps_to : eps_of part.weakest ≤ eps_of whole.weakest
  pub lam_from : lam_of whole.weakest ≤ lam_of part.weakest
  pub lam_to : lam_of part.strongest ≤ lam_of whole.strongest

-- a point of a rectangle that is on none of its borders
pub record IsInside (r : Rectangle) (point : Point) : Type 0 where
  pub eps_from : eps_of r.strongest * point.parts < point.eps
  pub eps_to : point.eps < eps_of r.weakest * point.parts
  pub lam_from : lam_of r.weakest * point.parts < point.lam
  pub lam_to : point.lam < lam_of r.strongest * point.parts

-- no point is inside both
abbrev pub HaveDisjointInsides : Rectangle → Rectangle → Type 0
HaveDisjointInsides a b = (point : Point) → IsInside a point → IsInside b point → ⊥

-- the area, in units of 10^-4 times 10^-4 nm
abbrev pub area_of : Rectangle → ℕ
area_of r = length_of (eps_side r) * length_of (lam_side r)

-- parts of a rectangle that cover it, and have but points of their borders in common
pub record AreTiles (whole : Rectangle) (tiles : List Rectangle) : Type 0 where
  pub parts : All (IsPartOfRectangle whole) tiles
  pub cover : (point : Point) → IsInRectangle whole point
      → (tile : Rectangle) × Contains tiles tile × IsInRectangle tile point
  pub apart : AllPairs HaveDisjointInsides tiles
  pub area : sum_by area_of tiles ≡ area_of whole

-- the rectangles of tiles
abbrev pub rectangles_in : List Tile → List Rectangle
rectangles_in tiles = map (λ t. t.rectangle) tiles

-- tiles of a rectangle, and the answer of each holds
pub record AreJudgedTiles (says : Rectangle → CellAnswer → Type 0) (whole : Rectangle)
    (tiles : List Tile) : Type 0 where
  pub tiling : AreTiles whole (rectangles_in tiles)
  pub answers : All (λ t. says t.rectangle t.answer) tiles
