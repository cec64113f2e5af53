use Rattle.std.proofs.Common.{◌≡◌, ◌≤◌, ◌++◌, string_bytes}
use Rattle.sidb_units.specs.Decimal.{last_digits}
use Rattle.sidb_units.proofs.decimal_printing.push_digits.Given as goal

abbrev pub invariant-loop-left : goal.invariant-loop-left
invariant-loop-left l = record {
  few : l.left ≤ 12;
  same : string_bytes l.text ++ last_digits l.left l.value ≡ string_bytes l.fn.text ++ last_digits l.fn.count l.value;
}

abbrev pub decreases-loop-left : goal.decreases-loop-left
decreases-loop-left l = l.left
