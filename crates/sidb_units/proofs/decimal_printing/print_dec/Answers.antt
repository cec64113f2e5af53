use Rattle.std.proofs.Common.{arith}
use Rattle.std.proofs.Math.Nat.{one-le-pow}
use Rattle.sidb_units.proofs.decimal_printing.print_dec.Goals as goal

pub nonzero_div-whole : goal.nonzero_div-whole
nonzero_div-whole c = rw c.pow.ensures (one-le-pow _ 10 (omega arith))
