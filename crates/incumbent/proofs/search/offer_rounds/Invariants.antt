use Rattle.incumbent.specs.Hunting.{IsHunt}
use Rattle.incumbent.proofs.search.offer_rounds.Given as goal

abbrev pub invariant-loop-round : goal.invariant-loop-round
invariant-loop-round l = IsHunt l.problem l.hunt
