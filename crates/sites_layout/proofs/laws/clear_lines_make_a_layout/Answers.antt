use Rattle.sites_layout.proofs.ClearLines.{clear_lines}
use Rattle.sites_layout.proofs.laws.clear_lines_make_a_layout.Goals as goal

pub returns : goal.returns
returns c = clear_lines c.distances_have_no_direction.ensures c.clear_places_make_a_layout.ensures
