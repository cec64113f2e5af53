use Rattle.std.proofs.Common.{◌≡◌, map, take, string_bytes}
use Rattle.charge_state.specs.Text.{byte_of}
use Rattle.charge_state.proofs.text.print_charges.Given as goal

-- the bytes of the charges so far
abbrev pub invariant-loop-i : goal.invariant-loop-i
invariant-loop-i l = string_bytes l.text ≡ map byte_of (take l.i l.charges)
