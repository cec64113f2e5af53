use Rattle.std.proofs.Common.{◌+◌, ◌*◌, ◌<◌, length, arith}
use Rattle.std.proofs.lemmas.List.{get_or_read}
use Rattle.sidb_lattice.specs.Classes.{class_near}
use Rattle.charge_model.proofs.Pairs.{row_within}
use Rattle.sidb_lattice.proofs.classes.Classes.near.Goals as goal

pub returns-clause-value : goal.returns-clause-value
unfolding class_near
returns-clause-value c =
    let fields = c.self.inside in
    let row : c.args.i < fields.sites = rw (← c.self.view_is) at c.requires.i in
    let column : c.args.a < fields.fixes = rw (← c.self.view_is) at c.requires.a in
    let in_range : c.args.i * fields.fixes + c.args.a < length fields.near_classes.items =
    omega (arith, c.self.invariant.class_per_near, row_within fields.sites fields.fixes c.args.i c.args.a row column) in
    rw (← c.self.view_is) (get_or_read fields.near_classes.items _ _ in_range c.index.ensures 0)
