-- points of a grid, settings and answers, worked by hand
use Rattle.std.proofs.Common.{◌≡◌, ℕ, ℤ, pos, refl, List, [], ◌∷◌, arith}
use Rattle.model_params.specs.declared.params.Params.{Params}
use Rattle.gate_model.specs.declared.grid.Axis.{Axis}
use Rattle.gate_model.specs.Grids.{Axes, point_at}
use Rattle.gate_model.specs.Logic.{pattern_count}
use Rattle.bdl_pairs.specs.declared.verdicts.PatternVerdict.TheVariants.{Works as PatternWorks, Fails as PatternFails, Undecided as PatternUndecided}
use Rattle.bdl_pairs.specs.declared.cell.CellAnswer.TheVariants.{Works, Fails, Undecided, Budget, Long}
use Rattle.operational_domain.specs.Patterns.{IsPatternOver, Setting}
use Rattle.operational_domain.specs.Points.{IsPoint}
use Rattle.operational_domain.specs.Cells.{HasVerdict, IsCellAnswer, WorkBelow}
use Rattle.operational_domain.specs.Truth.{IsFirstOver}
use Rattle.operational_domain.proofs.FirstReason.{none_works_yet}

-- permittivities 5.6 and 6, screening lengths 5 nm and 6 nm
abbrev pub eps_axis : Axis
eps_axis = record { start = pos 56000; step = pos 4000; count = 2 }

abbrev pub lam_axis : Axis
lam_axis = record { start = pos 50000; step = pos 10000; count = 2 }

abbrev pub axes : Axes
axes = record { eps = eps_axis; lam = lam_axis }

-- the screening length rises first
second : (p q : Params) → q.eps ≡ pos 56000 → q.lam ≡ pos 60000 → q.coulomb ≡ p.coulomb → q.depth ≡ p.depth → q.gap ≡ p.gap → q.base ≡ p.base → IsPoint p axes 1 q
second p q e l c d g b = record { eps = e; lam = l; coulomb = c; depth = d; gap = g; base = b }

third : (p q : Params) → q.eps ≡ pos 60000 → q.lam ≡ pos 50000 → q.coulomb ≡ p.coulomb → q.depth ≡ p.depth → q.gap ≡ p.gap → q.base ≡ p.base → IsPoint p axes 2 q
third p q e l c d g b = record { eps = e; lam = l; coulomb = c; depth = d; gap = g; base = b }

-- a gate of two patterns that both work, one whose second fails, and one whose first needs too many nodes
both_work : (s : Setting) → pattern_count s.gate ≡ 2 → WorkBelow s 2 → IsCellAnswer s Works
both_work s two below = rw two below

second_fails : (s : Setting) → pattern_count s.gate ≡ 2 → WorkBelow s 1 → HasVerdict s 1 PatternFails → IsCellAnswer s (Fails 1)
second_fails s two below fails = record { pattern = 1; within = omega (arith, two); reason = (refl, fails); first = below }

first_is_over : (s : Setting) → pattern_count s.gate ≡ 2 → IsPatternOver s 0 → IsCellAnswer s (Budget 0)
first_is_over s two over = record { pattern = 0; within = omega (arith, two); reason = (refl, over); first = none_works_yet s }
