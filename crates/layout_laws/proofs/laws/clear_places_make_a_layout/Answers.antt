use Rattle.layout_laws.proofs.Made.{layout_of_clear}
use Rattle.layout_laws.proofs.laws.clear_places_make_a_layout.Goals as goal

pub returns : goal.returns
returns c = layout_of_clear c.distances_have_no_direction.ensures
