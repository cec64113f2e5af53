use Rattle.std.proofs.Common.{◌≡◌, min, fold, take, ◌^◌}
use Rattle.sidb_units.specs.Decimal.{next_digit}
use Rattle.sidb_units.proofs.decimal_reading.more_digits.Given as goal

abbrev pub invariant-loop-digit : goal.invariant-loop-digit
invariant-loop-digit l = l.value ≡ min (fold next_digit l.start (take l.digit-index l.digits)) (2 ^ 64)
