-- the tiles of a rectangle: quartered where its answer stays open, to a given depth
use Rattle.std.specs.Prelude.{◌≡◌, ℕ, zero, suc, Bool, ◌&&◌, MatchBool, List, [], ◌∷◌, flat_map}
use Rattle.std.specs.List.{AllZip}
use Rattle.model_params.specs.declared.params.Params.{Params}
use Rattle.gate_model.specs.Grids.{Axes}
use Rattle.bdl_pairs.specs.declared.cell.CellAnswer.{CellAnswer}
use Rattle.parameter_regions.specs.declared.rectangles.Rectangle.{Rectangle}
use Rattle.region_tiles.specs.Rectangles.{AreGridRectangles, AreParts, can_be_cut}
use Rattle.region_tiles.specs.Areas.{stays_open}
use Rattle.region_tiles.specs.declared.tiles.Tile.{Tile}

-- a rectangle with its answer
abbrev pub tile_of : Rectangle → CellAnswer → Tile
tile_of r answer = record { rectangle = r; answer = answer }

-- the tiles of each of these rectangles, one list after the other
pub record AreJoined (refined : Rectangle → List Tile → Type 0) (rectangles : List Rectangle)
    (tiles : List Tile) : Type 0 where
  pub lists : List (List Tile)
  pub each : AllZip refined rectangles lists
  pub joined : tiles ≡ flat_map (λ ts. ts) lists

-- the tiles of the parts of a rectangle
pub record AreOfParts (refined : Rectangle → List Tile → Type 0) (r : Rectangle)
    (tiles : List Tile) : Type 0 where
  pub parts : List Rectangle
  pub of_cut : AreParts r parts
  pub of_parts : AreJoined refined parts tiles

-- whether a rectangle with this answer goes on to its parts
abbrev pub goes_on : Rectangle → CellAnswer → Bool
goes_on r answer = stays_open answer && can_be_cut r

-- the rectangle alone with its answer
pub record IsAlone (says : Rectangle → CellAnswer → Type 0) (r : Rectangle) (tiles : List Tile)
    : Type 0 where
  pub answer : CellAnswer
  pub said : says r answer
  pub tile : tiles ≡ tile_of r answer ∷ []

-- where the answer stays open, and the rectangle can be cut, the tiles of its parts; else it alone
pub record IsCutWhereOpen (says : Rectangle → CellAnswer → Type 0)
    (refined : Rectangle → List Tile → Type 0) (r : Rectangle) (tiles : List Tile)
    : Type 0 where
  pub answer : CellAnswer
  pub said : says r answer
  pub tiled : MatchBool (goes_on r answer) (AreOfParts refined r tiles)
      (tiles ≡ tile_of r answer ∷ [])

-- the tiles of a rectangle, cut at most so many times
abbrev pub IsRefined
    : (Rectangle → CellAnswer → Type 0) → ℕ → Rectangle → List Tile → Type 0
IsRefined says zero = IsAlone says
IsRefined says (suc depth) = IsCutWhereOpen says (IsRefined says depth)

-- the tiles of the rectangles of a grid, each refined, in order
pub record AreGridTiles (says : Rectangle → CellAnswer → Type 0) (p : Params) (a : Axes)
    (depth : ℕ) (tiles : List Tile) : Type 0 where
  pub rectangles : List Rectangle
  pub of_grid : AreGridRectangles p a rectangles
  pub refined : AreJoined (IsRefined says depth) rectangles tiles
