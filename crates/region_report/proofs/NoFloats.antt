-- reports of regions have no float, so their compact texts are known
use Rattle.std.proofs.Common.{◌≡◌, refl, List, [], ◌∷◌, map, false}
use Rattle.serde_json.specs.View.{items_of}
use Rattle.serde_json.specs.Written.{has_float, items_have_float}
use Rattle.region_tiles.specs.declared.tiles.Tile.{Tile}
use Rattle.region_report.specs.RegionJson.{region_data, tile_data}

tiles_no_float : (tiles : List Tile) → items_have_float (items_of (map tile_data tiles)) ≡ false
tiles_no_float [] = refl
tiles_no_float (t ∷ tiles) = tiles_no_float tiles

pub region_no_float : (tiles : List Tile) → has_float (region_data tiles) ≡ false
region_no_float tiles = rw (tiles_no_float tiles) refl
