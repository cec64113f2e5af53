-- what is no point, no cell and no reason
use Rattle.std.proofs.Common.{◌≡◌, ◌∙◌, sym, ap, ℕ, ℤ, pos, refl, List, [], length, arith}
use Rattle.std.proofs.lemmas.Int.{ints}
use Rattle.model_params.specs.declared.params.Params.{Params}
use Rattle.bdl_pairs.specs.declared.cell.Cell.{Cell}
use Rattle.bdl_pairs.specs.declared.truth.PatternAnswer.{PatternAnswer}
use Rattle.bdl_pairs.specs.declared.cell.CellAnswer.TheVariants.{Works, Fails, Undecided, Budget, Long}
use Rattle.operational_domain.specs.Patterns.{Setting}
use Rattle.operational_domain.specs.Placed.{Placed}
use Rattle.operational_domain.specs.Points.{IsPoint}
use Rattle.operational_domain.specs.Cells.{IsCellAnswer, IsReason}
use Rattle.operational_domain.specs.Domain.{AreCells}
use Rattle.operational_domain.specs.Truth.{AreAnswers}
use Rattle.operational_domain.proofs.StandardFacts.{axes}

-- the permittivity does not rise first
axes_exchanged : (p q : Params) → q.eps ≡ pos 60000 → IsPoint p axes 1 q → ⊥
axes_exchanged p q e is = let wrong : pos 60000 ≡ pos 56000 = sym e ∙ is.eps in omega (arith, ints, wrong)

-- the charges of a point are those that are asked for
other_base : (p q : Params) (k : ℕ) → p.base ≡ 3 → q.base ≡ 2 → IsPoint p axes k q → ⊥
other_base p q k three two is = let wrong : 2 ≡ 3 = sym two ∙ is.base ∙ three in omega (arith, wrong)

-- a grid of four points has more than no cell
no_cells : (placed : Placed) (p : Params) → AreCells placed p axes [] → ⊥
no_cells placed p are = let wrong : 0 ≡ 4 = are.count in omega (arith, wrong)

-- a table of two patterns has more than no answer
no_answers : (s : Setting) → AreAnswers s 2 [] → ⊥
no_answers s are = let wrong : 0 ≡ 2 = are.count in omega (arith, wrong)

-- a reason names its own pattern, and a gate that works has none
other_pattern : (s : Setting) → IsReason s (Fails 0) 1 → ⊥
other_pattern s is = let wrong : 0 ≡ 1 = is.0 in omega (arith, wrong)

no_reason : (s : Setting) (k : ℕ) → IsReason s Works k → ⊥
no_reason s k is = is
