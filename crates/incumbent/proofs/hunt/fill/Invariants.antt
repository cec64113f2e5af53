use Rattle.std.proofs.Common.{◌≡◌, length}
use Rattle.charge_model.specs.Charges.{IsOfBase}
use Rattle.incumbent.proofs.hunt.fill.Given as goal

abbrev pub invariant-loop-k : goal.invariant-loop-k
invariant-loop-k l = record {
  problem : l.track.problem ≡ l.problem;
  whole : length l.track.prefix ≡ l.k;
  of_base : IsOfBase l.problem.base l.track.prefix;
}
