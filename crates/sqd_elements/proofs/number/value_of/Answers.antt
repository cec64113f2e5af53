use Rattle.std.proofs.Common.{get_or, arith}
use Rattle.sqd_elements.proofs.Digits.{digit_at, digit_to, front_small, one_more}
use Rattle.sqd_elements.proofs.number.value_of.Goals as goal

pub overflow_mul-value : goal.overflow_mul-value
overflow_mul-value c =
    omega (arith, front_small c.args.digits.now c.loop-digit.digit-index c.requires.digits (omega arith))

pub overflow_add-value : goal.overflow_add-value
overflow_add-value c =
    let digit = digit_to (get_or c.args.digits.now c.loop-digit.digit-index 0) (digit_at c.args.digits.now c.loop-digit.digit-index c.requires.digits (omega arith)) in
    omega (arith, digit, c.from.ensures, front_small c.args.digits.now c.loop-digit.digit-index c.requires.digits (omega arith))

pub loop-digit-preserved : goal.loop-digit-preserved
loop-digit-preserved c =
    omega (arith, c.from.ensures, c.loop-digit.invariant, one_more c.args.digits.now c.loop-digit.digit-index c.requires.digits (omega arith))
