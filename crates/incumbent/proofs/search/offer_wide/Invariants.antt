use Rattle.incumbent.specs.Hunting.{IsHunt}
use Rattle.incumbent.proofs.search.offer_wide.Given as goal

abbrev pub invariant-loop-guess : goal.invariant-loop-guess
invariant-loop-guess l = IsHunt l.problem l.hunt
