-- the tile of a point
use Rattle.std.proofs.Common.{◌≡◌, ◌∙◌, ℕ, ◌<◌, List, length, map, sym, subst}
use Rattle.std.specs.Prelude.{slice_index_or}
use Rattle.std.proofs.lemmas.List.{get_or-map, get_or_default, length-map}
use Rattle.bdl_pairs.specs.declared.cell.CellAnswer.{CellAnswer}
use Rattle.bdl_pairs.specs.declared.cell.CellAnswer.TheVariants.{Works}
use Rattle.operational_domain.specs.Placed.{Placed}
use Rattle.parameter_regions.specs.declared.rectangles.Rectangle.{Rectangle}
use Rattle.parameter_regions.specs.Points.{Point}
use Rattle.parameter_regions.specs.Rectangles.{IsInRectangle}
use Rattle.region_tiles.specs.declared.tiles.Tile.{Tile}
use Rattle.region_tiles.specs.Tiles.{AreJudgedTiles}
use Rattle.region_domain.specs.Tiles.{IsTileAnswer}
use Rattle.region_domain.specs.Promises.{TellsEverywhere}
use Rattle.region_domain.specs.Region.{IsToldBy}

-- the tile that stands for a rectangle of the tiles
tile_at : (tiles : List Tile) (r : Rectangle) (k : ℕ) → k < length tiles → slice_index_or (map (λ (t : Tile). t.rectangle) tiles) k r ≡ r
    → (slice_index_or tiles k (record { rectangle = r; answer = Works })).rectangle ≡ r
tile_at tiles r k within is = sym (get_or-map (λ (t : Tile). t.rectangle) tiles k (record { rectangle = r; answer = Works }) r within) ∙ is

pub told : (placed : Placed) → ((r : Rectangle) (answer : CellAnswer) → IsTileAnswer placed r answer → TellsEverywhere placed r answer)
    → (whole : Rectangle) (tiles : List Tile) → AreJudgedTiles (IsTileAnswer placed) whole tiles → (point : Point) → IsInRectangle whole point → IsToldBy placed tiles point
told placed tells whole tiles are point inside =
    let (rectangle, (k, within, is), there) = are.tiling.cover point inside in
    let here : k < length tiles = subst (λ (n : ℕ). k < n) (length-map tiles (λ (t : Tile). t.rectangle)) within in
    let none : Tile = record { rectangle = rectangle; answer = Works } in
    let tile : Tile = slice_index_or tiles k none in
    let same : tile.rectangle ≡ rectangle = tile_at tiles rectangle k here is in
    record {
      tile = tile;
      printed = (k, here, get_or_default tiles k tile none here);
      inside = subst (λ (q : Rectangle). IsInRectangle q point) (sym same) there;
      tells = tells tile.rectangle tile.answer (are.answers k none here);
    }
