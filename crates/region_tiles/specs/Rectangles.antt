-- rectangles by their sides: the parts of a rectangle that is cut, and the rectangles of a grid
use Rattle.std.specs.Prelude.{◌≡◌, Bool, ◌||◌, List, flat_map, map}
use Rattle.std.specs.List.{AllZip}
use Rattle.model_params.specs.declared.params.Params.{Params}
use Rattle.screened_coulomb.specs.Potential.{eps_of, lam_of}
use Rattle.gate_model.specs.Grids.{Axes}
use Rattle.parameter_regions.specs.declared.rectangles.Rectangle.{Rectangle}
use Rattle.region_tiles.specs.Alike.{AreAlike}
use Rattle.region_tiles.specs.declared.sides.Side.{Side}
use Rattle.region_tiles.specs.Sides.{between, halves_of, is_cut, whole_side, steps_of}

-- the two sides of a rectangle: permittivity and screening length
pub record Sides : Type 0 where
  pub eps : Side
  pub lam : Side

-- these two
abbrev pub sides_of : Side → Side → Sides
sides_of e l = record { eps = e; lam = l }

-- each side of permittivity with each of screening length, permittivity outer
abbrev pub rows_of : List Side → List Side → List Sides
rows_of es ls = flat_map (λ e. map (sides_of e) ls) es

-- the permittivities of a rectangle
abbrev pub eps_side : Rectangle → Side
eps_side r = between (eps_of r.strongest) (eps_of r.weakest)

-- its screening lengths
abbrev pub lam_side : Rectangle → Side
lam_side r = between (lam_of r.weakest) (lam_of r.strongest)

-- a rectangle of these sides, where all else is as in the parameters
pub record HasSides (p : Params) (sides : Sides) (r : Rectangle) : Type 0 where
  pub alike : AreAlike p r.weakest
  pub eps : eps_side r ≡ sides.eps
  pub lam : lam_side r ≡ sides.lam

-- the rectangles of sides, permittivity outer and screening length inner
abbrev pub AreRectangles : Params → List Side → List Side → List Rectangle → Type 0
AreRectangles p es ls rectangles = AllZip (HasSides p) (rows_of es ls) rectangles

-- whether a rectangle is cut: by permittivity, by screening length, or by both
abbrev pub can_be_cut : Rectangle → Bool
can_be_cut r = is_cut (eps_side r) || is_cut (lam_side r)

-- the parts of a rectangle: each side that is cut is halved in its middle
abbrev pub AreParts : Rectangle → List Rectangle → Type 0
AreParts r parts = AreRectangles r.weakest (halves_of (eps_side r)) (halves_of (lam_side r)) parts

-- the rectangles of a grid: from each of its points to the next in both directions
abbrev pub AreGridRectangles : Params → Axes → List Rectangle → Type 0
AreGridRectangles p a rectangles = AreRectangles p (steps_of a.eps) (steps_of a.lam) rectangles

-- the whole rectangle of a grid: from its first points to its far ends
abbrev pub IsGridWhole : Params → Axes → Rectangle → Type 0
IsGridWhole p a whole = HasSides p (sides_of (whole_side a.eps) (whole_side a.lam)) whole
