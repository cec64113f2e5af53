use Rattle.std.proofs.Common.{add-one, arith, unsigned_abs, ◌≤◌, ◌*◌, ◌^◌}
use Rattle.std.proofs.lemmas.Int.{ints}
use Rattle.prefix_rows.proofs.verdicts.rows_low.Goals as goal

pub loop-a-preserved : goal.loop-a-preserved
loop-a-preserved c =
    let before : unsigned_abs c.loop-a.sum.value ≤ c.loop-a.a * (88 * 10 ^ 13) = c.loop-a.invariant.small in
    record {
      value = rw (add-one, c.added-sum.ensures, c.loop-a.invariant.value, c.row_low.ensures.value, c.len-depth.ensures.value);
      small = omega (arith, ints);
    }
