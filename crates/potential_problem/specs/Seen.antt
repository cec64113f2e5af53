-- problems as the definitions see them
use Rattle.charge_model.specs.Problem.{Problem}
use Rattle.potential_problem.specs.declared.problem.Problem.TheInside.{Inside}

-- the problem that the fields stand for
abbrev pub seen : Inside → Problem
seen s = record {
  sites = s.sites;
  base = s.levels.base;
  mu_minus = s.levels.mu_minus;
  mu_plus = s.levels.mu_plus;
  fixed_charges = s.fixed_charges.items;
  pair_classes = s.pair_classes.items;
  near_classes = s.near_classes.items;
  spans = s.spans.items;
}
