use Rattle.std.proofs.Common.{arith}
use Rattle.potential_table.proofs.RangeLemmas.{class_few, few_fits, near_is}
use Rattle.potential_table.proofs.lines.near_of.Goals as goal

pub overflow_cast-result-3 : goal.overflow_cast-result-3
overflow_cast-result-3 c = few_fits _ (class_few c.args.problem.now _ c.requires.valid c.near.ensures.within)

pub returns : goal.returns
returns c =
    near_is c.args.i c.args.a c.near.result _ (omega (arith, c.requires.site, c.requires.valid.few_sites)) (omega (arith, c.requires.charge, c.requires.valid.few_fixed)) (class_few c.args.problem.now _ c.requires.valid c.near.ensures.within) c.near.ensures.value
