use Rattle.layout_text_laws.proofs.Drawn.{each_text}
use Rattle.layout_text_laws.proofs.laws.each_text_is_drawn.Goals as goal

pub returns : goal.returns
returns c = each_text c.some_reading.ensures c.places_make_a_layout_or_are_refused.ensures c.default_lattice_is_roomy.ensures
