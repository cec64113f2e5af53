use Rattle.prune_certificate.proofs.PrintedText.{tokens_are}
use Rattle.prune_certificate.proofs.laws.token_lines_are_the_end.Goals as goal

pub returns : goal.returns
returns c = tokens_are
