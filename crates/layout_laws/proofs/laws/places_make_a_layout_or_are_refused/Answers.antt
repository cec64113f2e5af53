use Rattle.layout_laws.proofs.Existence.{made_or_refused}
use Rattle.layout_laws.proofs.laws.places_make_a_layout_or_are_refused.Goals as goal

pub returns : goal.returns
returns c = made_or_refused c.distances_have_no_direction.ensures
