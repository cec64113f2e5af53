use Rattle.std.proofs.Common.{sym}
use Rattle.operational_domain.proofs.InOrder.{shape_at}
use Rattle.operational_domain.proofs.placed.PlacedGate.shape.Goals as goal

pub returns : goal.returns
returns c = shape_at c.args.self.now c.self.inside.layout c.self.inside.gate c.self.inside.limit c.self.inside.shapes.items c.args.pattern c.index.result.now c.self.view_is c.self.invariant.shapes c.requires c.index.ensures
