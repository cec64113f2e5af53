use Rattle.prune_certificate.proofs.PrintedText.{printed}
use Rattle.prune_certificate.proofs.laws.printed_text.Goals as goal

pub returns : goal.returns
returns c = λ p es ts is fits. printed p es ts (c.printed_text.ensures p is) fits
