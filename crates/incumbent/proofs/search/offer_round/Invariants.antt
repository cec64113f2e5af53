use Rattle.incumbent.specs.Hunting.{IsHunt}
use Rattle.incumbent.proofs.search.offer_round.Given as goal

abbrev pub invariant-loop-site : goal.invariant-loop-site
invariant-loop-site l = IsHunt l.problem l.hunt
