use Rattle.std.proofs.Common.{◌≡◌, ◌++◌, List, length}
use Rattle.charge_model.specs.declared.charge.Charge.{Charge}
use Rattle.charge_state.proofs.Numerals.{AllLast}
use Rattle.charge_state.proofs.order.next_charges.Given as goal

-- the list is what is left of the copy, and charges that are all the last of the base
abbrev pub invariant-loop-charge : goal.invariant-loop-charge
invariant-loop-charge l = (rest : List Charge) × (l.charges ≡ l.next ++ rest) × AllLast l.base rest

abbrev pub decreases-loop-charge : goal.decreases-loop-charge
decreases-loop-charge l = length l.next
