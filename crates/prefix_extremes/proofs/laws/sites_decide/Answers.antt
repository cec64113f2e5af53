use Rattle.std.proofs.Common.{refl, sym}
use Rattle.prefix_extremes.proofs.Opening.{closed_is_not_open, open_to_the_end}
use Rattle.prefix_extremes.proofs.laws.sites_decide.Goals as goal

pub returns-clause-opens : goal.returns-clause-opens
returns-clause-opens c = λ p q each. sym (open_to_the_end p q p.sites refl each)

pub returns-clause-closes : goal.returns-clause-closes
returns-clause-closes c = λ p q k l closed. sym (closed_is_not_open p q k l closed)
