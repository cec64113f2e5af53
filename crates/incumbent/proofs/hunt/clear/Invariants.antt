use Rattle.std.proofs.Common.{◌≡◌, ◌+◌, length}
use Rattle.incumbent.proofs.hunt.clear.Given as goal

abbrev pub invariant-loop-taken : goal.invariant-loop-taken
invariant-loop-taken l = record {
  problem : l.track.problem ≡ l.problem;
  left : length l.track.prefix + l._taken ≡ length l.initial.track.prefix;
}
