use Rattle.std.proofs.Common.{◌+◌, length, sym, subst, ap, ◌∙◌}
use Rattle.charge_model.specs.Charges.{IsOfBase}
use Rattle.incumbent.proofs.Lists.{length_more, of_base_more}
use Rattle.incumbent.proofs.hunt.fill.Goals as goal

pub loop-k-preserved : goal.loop-k-preserved
loop-k-preserved c =
    let p = c.args.problem.now in
    let before = c.loop-k.track.prefix in
    let charge = c.charge_of-charge.result in
    record {
      problem = c.push.ensures.problem ∙ c.loop-k.invariant.problem;
      whole = ap length c.push.ensures.prefix ∙ length_more before charge ∙ ap (λ n. n + 1) c.loop-k.invariant.whole;
      of_base = subst (IsOfBase p.base) (sym c.push.ensures.prefix) (of_base_more p.base before charge c.loop-k.invariant.of_base c.charge_of-charge.ensures);
    }
