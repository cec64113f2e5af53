-- problems from their parts
use Rattle.std.specs.Prelude.{ℕ, ℤ, List}
use Rattle.charge_model.specs.declared.span.Span.{Span}
use Rattle.charge_model.specs.Problem.{Problem}
use Rattle.potential_problem.specs.declared.levels.Levels.{Levels}

-- the problem of these sites, classes of pairs, fixed charges, classes of sites
-- with fixed charges, spans and levels
abbrev pub problem_from
    : ℕ → List ℕ → List ℤ → List ℕ → List Span → Levels → Problem
problem_from sites pair_classes charges near_classes spans levels = record {
  sites = sites;
  base = levels.base;
  mu_minus = levels.mu_minus;
  mu_plus = levels.mu_plus;
  fixed_charges = charges;
  pair_classes = pair_classes;
  near_classes = near_classes;
  spans = spans;
}
