use Rattle.layout_text_laws.proofs.Exists.{has_reading}
use Rattle.layout_text_laws.proofs.laws.each_sites_text_is_read.Goals as goal

pub returns : goal.returns
returns c = has_reading (record {
  site_decided = c.places_are_in_range_or_not.ensures;
  fix_decided = c.fixes_are_in_range_or_not.ensures;
  same_decided = c.places_are_the_same_or_not.ensures;
  layout_of_clear = c.clear_lines_make_a_layout.ensures;
})
