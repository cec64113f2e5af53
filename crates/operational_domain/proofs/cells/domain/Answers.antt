use Rattle.std.proofs.Common.{sym, subst, ◌*◌}
use Rattle.std.specs.List.{AllZip}
use Rattle.operational_domain.specs.Cells.{IsCellOf}
use Rattle.operational_domain.specs.Domain.{AreCells}
use Rattle.operational_domain.specs.Points.{ArePoints}
use Rattle.operational_domain.proofs.InOrder.{cells_of_points, if_ok}
use Rattle.operational_domain.proofs.cells.domain.Goals as goal

pub returns : goal.returns
returns g c =
    let a = c.args.grid.now in
    if_ok (λ v. AllZip (IsCellOf c.args.placed.now) c.as_slice.result.now v.items) (λ v. AreCells c.args.placed.now c.args.params.now a v.items) c.cells_at.result
    (λ v zip. cells_of_points c.args.placed.now c.args.params.now a c.as_slice.result.now v.items
    (subst (ArePoints c.args.params.now a (a.eps.count * a.lam.count)) (sym c.as_slice.ensures.value) c.in_ok-points.ensures) zip) c.cells_at.ensures
