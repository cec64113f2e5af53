use Rattle.std.proofs.Common.{◌≡◌, ◌+◌, ℕ, List, map, take, Some}
use Rattle.std.specs.Prelude.{sum}
use Rattle.shared_check.proofs.adding.added.Given as goal

abbrev pub invariant-loop-k : goal.invariant-loop-k
invariant-loop-k l = (ns : List ℕ) × (take l.k l.counts ≡ map Some ns) × (l.total ≡ l.few + sum ns)
