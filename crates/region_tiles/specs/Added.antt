-- tiles behind others
use Rattle.std.specs.Prelude.{◌≡◌, List, ◌++◌}
use Rattle.region_tiles.specs.declared.tiles.Tile.{Tile}

-- tiles of which something holds stand behind those that were there
pub record AddsTiles (holds : List Tile → Type 0) (before after : List Tile) : Type 0 where
  pub more : List Tile
  pub appended : after ≡ before ++ more
  pub of_more : holds more
