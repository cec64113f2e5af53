use Rattle.sqd_elements.proofs.KeptLemmas.{site_kept}
use Rattle.sqd_elements.proofs.laws.kept_site.Goals as goal

pub returns : goal.returns
returns c = site_kept
