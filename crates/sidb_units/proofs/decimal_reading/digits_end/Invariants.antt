use Rattle.std.proofs.Common.{ℕ, ◌<◌, ◌≤◌, slice_index}
use Rattle.sidb_units.specs.Numeral.{IsDigit}
use Rattle.sidb_units.proofs.decimal_reading.digits_end.Given as goal

abbrev pub invariant-loop-at : goal.invariant-loop-at
invariant-loop-at l = (i : ℕ) → l.from ≤ i → i < l.at → IsDigit (slice_index l.text i)
