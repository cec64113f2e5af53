-- the region text: what a gate does on the whole of each tile, and the areas, as lines of words
use Rattle.std.specs.Prelude.{ℕ, List, [], ◌∷◌, ◌++◌, map, codes, decimal}
use Rattle.text_rows.specs.Rows.{text_of}
use Rattle.sidb_units.specs.Decimal.{decimal_text}
use Rattle.screened_coulomb.specs.Potential.{eps_of, lam_of}
use Rattle.region_tiles.specs.declared.tiles.Tile.{Tile}
use Rattle.region_tiles.specs.Areas.{failing_area, open_area, working_area}
use Rattle.gate_report.specs.Answers.{answer_text}

-- the line of a tile: least and greatest permittivity, least and greatest screening length in nm,
-- all with four decimals, and the answer
abbrev pub tile_row : Tile → List (List ℕ)
tile_row t = codes "tile" ∷ decimal_text 4 (eps_of t.rectangle.strongest)
    ∷ decimal_text 4 (eps_of t.rectangle.weakest) ∷ decimal_text 4 (lam_of t.rectangle.weakest)
    ∷ decimal_text 4 (lam_of t.rectangle.strongest) ∷ answer_text t.answer ∷ []

-- the areas of the tiles that work, that fail and that stay open,
-- in units of 10^-4 times 10^-4 nm, and the end
abbrev pub area_rows : List Tile → List (List (List ℕ))
area_rows tiles = (codes "works" ∷ decimal (working_area tiles) ∷ [])
    ∷ (codes "fails" ∷ decimal (failing_area tiles) ∷ [])
    ∷ (codes "open" ∷ decimal (open_area tiles) ∷ []) ∷ (codes "end" ∷ []) ∷ []

-- the whole text
abbrev pub region_text : List Tile → List ℕ
region_text tiles =
    text_of ((codes "sidb-region" ∷ codes "1" ∷ []) ∷ (map tile_row tiles ++ area_rows tiles))
