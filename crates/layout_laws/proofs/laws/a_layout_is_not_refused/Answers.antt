use Rattle.layout_laws.proofs.Unrefused.{not_refused}
use Rattle.layout_laws.proofs.laws.a_layout_is_not_refused.Goals as goal

pub returns : goal.returns
returns c = λ v sites fixes p f made refused. not_refused v sites fixes p made f refused
