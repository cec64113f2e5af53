use Rattle.std.proofs.Common.{◌≡◌, ◌≤◌, List, map, take, length}
use Rattle.charge_model.specs.declared.charge.Charge.{Charge}
use Rattle.charge_model.specs.declared.TheConstants.{MAX_SITES}
use Rattle.charge_state.specs.Text.{byte_of}
use Rattle.charge_state.proofs.text.read_signs.Given as goal

-- the bytes so far are those of some charges, which are kept as far as there is room
abbrev pub invariant-loop-i : goal.invariant-loop-i
invariant-loop-i l = (read : List Charge) × (map byte_of read ≡ take l.i l.text) × (length read ≤ MAX_SITES → l.charges ≡ read)
