use Rattle.std.proofs.Common.{◌≡◌, map, take}
use Rattle.screened_coulomb.proofs.layouts.fixed_charges.Given as goal

abbrev pub invariant-loop-a : goal.invariant-loop-a
invariant-loop-a l = l.charges.items ≡ map (λ f. f.charge) (take l.a l.layout.fixes)
