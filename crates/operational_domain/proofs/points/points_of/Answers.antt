use Rattle.std.proofs.Common.{◌≡◌, ◌∙◌, sym, ap, subst, ℕ, ◌+◌, ◌*◌, arith}
use Rattle.gate_model.specs.declared.grid.Axis.{Axis}
use Rattle.operational_domain.specs.Points.{ArePoints}
use Rattle.operational_domain.proofs.InOrder.{points_more}
use Rattle.operational_domain.proofs.points.points_of.Goals as goal

pub loop-k-preserved : goal.loop-k-preserved
loop-k-preserved c = subst (ArePoints c.args.params.now c.args.grid.now (c.loop-k.k + 1)) (sym c.in_ok-push.ensures.items)
    (points_more c.args.params.now c.args.grid.now c.loop-k.k c.loop-k.points.items c.point.result c.loop-k.invariant c.point.ensures)

pub returns : goal.returns
returns c =
    let eps : c.eps.result.count ≡ c.args.grid.now.eps.count = ap (λ (x : Axis). x.count) c.eps.ensures.value in
    let lam : c.lam.result.count ≡ c.args.grid.now.lam.count = ap (λ (x : Axis). x.count) c.lam.ensures.value in
    let all : c.loop-k.k ≡ c.eps.result.count * c.lam.result.count = omega arith in
    subst (λ n. ArePoints c.args.params.now c.args.grid.now n c.loop-k.points.items)
    (all ∙ ap (λ m. m * c.lam.result.count) eps ∙ ap (λ m. c.args.grid.now.eps.count * m) lam) c.loop-k.invariant
