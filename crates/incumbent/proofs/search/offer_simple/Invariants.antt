use Rattle.incumbent.specs.Hunting.{IsHunt}
use Rattle.incumbent.proofs.search.offer_simple.Given as goal

abbrev pub invariant-loop-period : goal.invariant-loop-period
invariant-loop-period l = IsHunt l.problem l.hunt

abbrev pub invariant-loop-first : goal.invariant-loop-first
invariant-loop-first l = IsHunt l.problem l.hunt
