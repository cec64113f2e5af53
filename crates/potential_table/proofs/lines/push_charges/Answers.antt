use Rattle.std.proofs.Common.{◌∙◌, ap, ◌++◌, ◌∷◌, [], pos, arith}
use Rattle.table_lines.specs.declared.line.TableLine.TheVariants.{Charge}
use Rattle.table_lines.proofs.LineLemmas.{fit}
use Rattle.potential_table.proofs.PushLemmas.{one_more}
use Rattle.potential_table.proofs.lines.push_charges.Goals as goal

pub loop-a-preserved : goal.loop-a-preserved
loop-a-preserved c =
    let same = fit c.fix_charge.result (omega (arith, c.fix_charge.ensures.within)) ∙ c.fix_charge.ensures.value in
    one_more Charge c.args.lines.now.items c.loop-a.lines.items _ c.args.problem.now.fixed_charges c.loop-a.a (pos 0) (omega (arith, c.loop-a-test.true, c.fixes-a-end.ensures.value)) c.loop-a.invariant (c.in_ok-push.ensures.items ∙ ap (λ q. c.loop-a.lines.items ++ Charge q ∷ []) same)
