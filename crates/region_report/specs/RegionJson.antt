-- a region as one line of JSON, with the keys in the order of their bytes
use Rattle.std.specs.Prelude.{ℕ, List, [], ◌∷◌, ◌++◌, map, codes}
use Rattle.serde_json.specs.Data.{Data, string, array, object, member, no_members}
use Rattle.serde_json.specs.View.{items_of}
use Rattle.serde_json.specs.Written.{compact_text}
use Rattle.sidb_units.specs.Decimal.{decimal_text}
use Rattle.sim_report_json.specs.Parts.{natural}
use Rattle.screened_coulomb.specs.Potential.{eps_of, lam_of}
use Rattle.region_tiles.specs.declared.tiles.Tile.{Tile}
use Rattle.region_tiles.specs.Areas.{failing_area, open_area, working_area}
use Rattle.gate_report.specs.Answers.{answer_text}

-- two numbers as texts with four decimals
abbrev pub pair_data : ℕ → ℕ → Data
pair_data from to =
    array (items_of (string (decimal_text 4 from) ∷ string (decimal_text 4 to) ∷ []))

-- a tile: what the gate does, its permittivities and its screening lengths in nm
abbrev pub tile_data : Tile → Data
tile_data t = object (member (codes "answer") (string (answer_text t.answer))
    (member (codes "eps") (pair_data (eps_of t.rectangle.strongest) (eps_of t.rectangle.weakest))
    (member (codes "lambda") (pair_data (lam_of t.rectangle.weakest) (lam_of t.rectangle.strongest))
    no_members)))

-- a region: its tiles, and the areas of those that work, that fail and that stay open
abbrev pub region_data : List Tile → Data
region_data tiles = object (member (codes "fails") (natural (failing_area tiles))
    (member (codes "kind") (string (codes "sidb-region"))
    (member (codes "open") (natural (open_area tiles))
    (member (codes "tiles") (array (items_of (map tile_data tiles)))
    (member (codes "version") (natural 1)
    (member (codes "works") (natural (working_area tiles)) no_members))))))

-- its line
abbrev pub region_json : List Tile → List ℕ
region_json tiles = compact_text (region_data tiles) ++ 10 ∷ []
