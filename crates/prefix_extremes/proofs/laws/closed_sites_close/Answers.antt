use Rattle.prefix_extremes.proofs.ClosedSites.{first_closes, one_first}
use Rattle.prefix_extremes.proofs.laws.closed_sites_close.Goals as goal

pub returns : goal.returns
returns c = record { closed = λ p q k short first opens. first_closes p q k first opens; first = one_first }
