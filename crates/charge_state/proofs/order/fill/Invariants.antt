use Rattle.std.proofs.Common.{◌≡◌, ◌-◌, ◌++◌, length, replicate}
use Rattle.charge_model.specs.declared.charge.Charge.TheVariants.{Neg}
use Rattle.charge_state.proofs.order.fill.Given as goal

abbrev pub invariant-loop-k : goal.invariant-loop-k
invariant-loop-k l = record {
  len : length l.charges ≡ l._k;
  charges : l.charges ≡ l.fn.charges ++ replicate (l._k - length l.fn.charges) Neg;
}
