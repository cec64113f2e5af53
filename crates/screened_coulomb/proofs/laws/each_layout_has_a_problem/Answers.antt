use Rattle.screened_coulomb.proofs.ProblemExists.{some_problem}
use Rattle.screened_coulomb.proofs.laws.each_layout_has_a_problem.Goals as goal

pub returns : goal.returns
returns c = some_problem (record {
  root_of = c.roots_exist.ensures;
  sized = c.rounded_sums_are_sized.ensures;
  down = c.rounded_sums_enclose_the_series.ensures.down;
  up = c.rounded_sums_enclose_the_series.ensures.up;
}) c.each_layout_has_classes.ensures
