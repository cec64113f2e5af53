use Rattle.screened_coulomb.proofs.SpanExists.{some_span}
use Rattle.screened_coulomb.proofs.laws.each_distance_has_a_span.Goals as goal

pub returns : goal.returns
returns c = some_span (record {
  root_of = c.roots_exist.ensures;
  sized = c.rounded_sums_are_sized.ensures;
  down = c.rounded_sums_enclose_the_series.ensures.down;
  up = c.rounded_sums_enclose_the_series.ensures.up;
})
