use Rattle.std.proofs.Common.{◌<◌, arith}
use Rattle.potential_table.proofs.RangeLemmas.{class_few, few_fits, pair_is}
use Rattle.potential_table.proofs.lines.pair_of.Goals as goal

pub overflow_cast-result-3 : goal.overflow_cast-result-3
overflow_cast-result-3 c = few_fits _ (class_few c.args.problem.now _ c.requires.valid c.class.ensures.within)

pub returns : goal.returns
returns c =
    let j_few : c.args.j < 64 = omega (arith, c.requires.second, c.requires.valid.few_sites) in
    pair_is c.args.i c.args.j c.class.result _ (omega (arith, j_few, c.requires.order)) j_few (class_few c.args.problem.now _ c.requires.valid c.class.ensures.within) c.class.ensures.value
