use Rattle.std.proofs.Common.{◌≡◌, ℕ, ◌<◌}
use Rattle.charge_model.specs.Charges.{charge_at}
use Rattle.charge_state.proofs.order.cmp_charges.Given as goal

-- the charges before place i agree
abbrev pub invariant-loop-i : goal.invariant-loop-i
invariant-loop-i l = (k : ℕ) → k < l.i → charge_at l.a k ≡ charge_at l.b k
