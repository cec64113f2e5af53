-- which answers work, which fail and which stay open, and the areas of their tiles
use Rattle.std.specs.Prelude.{ℕ, Bool, true, false, List, if◌then◌else◌, sum_by}
use Rattle.bdl_pairs.specs.declared.cell.CellAnswer.{CellAnswer}
use Rattle.bdl_pairs.specs.declared.cell.CellAnswer.TheVariants.{Works, Fails, Undecided, Budget, Long}
use Rattle.region_tiles.specs.declared.tiles.Tile.{Tile}
use Rattle.region_tiles.specs.Tiles.{area_of}

-- each pattern works
abbrev pub works : CellAnswer → Bool
works Works = true
works (Fails k) = false
works (Undecided k) = false
works (Budget k) = false
works (Long k) = false

-- a pattern fails
abbrev pub fails : CellAnswer → Bool
fails Works = false
fails (Fails k) = true
fails (Undecided k) = false
fails (Budget k) = false
fails (Long k) = false

-- neither is known: the list decides nothing, or there is none
abbrev pub stays_open : CellAnswer → Bool
stays_open Works = false
stays_open (Fails k) = false
stays_open (Undecided k) = true
stays_open (Budget k) = true
stays_open (Long k) = true

-- the area of a tile whose answer passes a test, and else 0
abbrev pub area_where : (CellAnswer → Bool) → Tile → ℕ
area_where test t = if test t.answer then area_of t.rectangle else 0

-- the areas of the tiles that work, that fail, and that stay open
abbrev pub working_area : List Tile → ℕ
working_area tiles = sum_by (area_where works) tiles

abbrev pub failing_area : List Tile → ℕ
failing_area tiles = sum_by (area_where fails) tiles

abbrev pub open_area : List Tile → ℕ
open_area tiles = sum_by (area_where stays_open) tiles

-- the area of all tiles together
abbrev pub whole_area : List Tile → ℕ
whole_area tiles = sum_by (λ t. area_of t.rectangle) tiles
