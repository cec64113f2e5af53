use Rattle.std.proofs.Common.{refl}
use Rattle.region_domain.proofs.Leaving.{tile_solved}
use Rattle.region_domain.proofs.patterns.found_on.Goals as goal

pub returns : goal.returns
returns g c = c.found_by.ensures.found c.args.placed.now c.args.rectangle.now c.args.pattern
    (tile_solved c.args.placed.now c.args.rectangle.now c.args.pattern
    c.shape-shaped.result.now c.in-Ok.problem c.wanted-wanted.result c.args.placed.now.limit c.solve_shaped-solved.result c.layout.result.now
    c.shape-shaped.ensures.left_by c.layout.ensures c.in-Ok.ensures c.wanted-wanted.ensures refl c.solve_shaped-solved.ensures)

pub returns-in_default : goal.returns-in_default
returns-in_default g c = tt
