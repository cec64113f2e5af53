use Rattle.std.proofs.Common.{sym, subst, ◌<◌, ◌^◌, List}
use Rattle.region_tiles.specs.declared.tiles.Tile.{Tile}
use Rattle.region_tiles.specs.Areas.{whole_area}
use Rattle.task_region.proofs.answer.placed_answer.Goals as goal

pub report_of-requires : goal.report_of-requires
report_of-requires g c =
    subst (λ (tiles : List Tile). whole_area tiles < 2 ^ 64) (sym c.as_slice.ensures.value)
    (c.each_grid_is_a_rectangle.ensures.small (record { placed = c.args.placed.now }) c.args.settings.now.params c.args.grid.now c.args.settings.now.region.refine c.in_ok-tiles.tiles.items c.keeps_axes.ensures c.requires c.in_ok-tiles.ensures)
