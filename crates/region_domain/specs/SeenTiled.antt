-- the tiles of a rectangle as the definitions see them
use Rattle.std.specs.Prelude.{List}
use Rattle.region_tiles.specs.declared.tiles.Tile.{Tile}
use Rattle.region_domain.specs.declared.grid.Tiled.TheInside.{Inside}

-- the tiles of the field
abbrev pub seen_tiled : Inside → List Tile
seen_tiled s = s.tiles.items
