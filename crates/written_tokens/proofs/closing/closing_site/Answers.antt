use Rattle.written_tokens.proofs.ClosedSites.{closes_first}
use Rattle.written_tokens.proofs.closing.closing_site.Goals as goal

pub returns : goal.returns
returns c = closes_first c.args.problem.now c.args.track.now.prefix c.in-Some.k c.in-Some.ensures.found
