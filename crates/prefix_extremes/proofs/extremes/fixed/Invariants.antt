use Rattle.std.proofs.Common.{◌≡◌, ◌≤◌, ◌*◌, ◌^◌, unsigned_abs}
use Rattle.charge_model.specs.Problem.{near_class_of, fixed_at}
use Rattle.charge_model.specs.Rules.{sum_below}
use Rattle.charge_model.specs.Prefixes.{least_product, greatest_product}
use Rattle.prefix_extremes.proofs.extremes.fixed.Given as goal

abbrev pub invariant-loop-a : goal.invariant-loop-a
invariant-loop-a l = record {
  least : l.sum.least.value ≡ sum_below l.a (λ a. least_product l.problem (near_class_of l.problem l.k a) (fixed_at l.problem a));
  greatest : l.sum.greatest.value ≡ sum_below l.a (λ a. greatest_product l.problem (near_class_of l.problem l.k a) (fixed_at l.problem a));
  least_small : unsigned_abs l.sum.least.value ≤ l.a * (3 * 10 ^ 13);
  greatest_small : unsigned_abs l.sum.greatest.value ≤ l.a * (3 * 10 ^ 13);
}
