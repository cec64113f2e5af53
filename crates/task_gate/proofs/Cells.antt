-- the numbers of the cells of a grid are at least 0
use Rattle.std.proofs.Common.{◌∙◌, sym, subst, ℕ, ◌<◌, pos, ◌≤ℤ◌, List, arith}
use Rattle.std.specs.Prelude.{All}
use Rattle.std.proofs.lemmas.Int.{ints}
use Rattle.std.proofs.lemmas.List.{get_or_default}
use Rattle.model_params.specs.declared.params.Params.{Params}
use Rattle.gate_model.specs.Grids.{Axes}
use Rattle.bdl_pairs.specs.declared.cell.Cell.{Cell}
use Rattle.operational_domain.specs.Placed.{Placed}
use Rattle.operational_domain.specs.Domain.{AreCells, IsCellAt}
use Rattle.gate_report.specs.DomainText.{IsPrintable}

printable : (placed : Placed) (p : Params) (a : Axes) (k : ℕ) (cell : Cell) → IsCellAt placed p a k cell → IsPrintable cell
printable placed p a k cell is =
    let range = is.point.in_range in
    let eps : pos 0 ≤ℤ is.point.eps = omega (arith, ints, range.eps_within.from) in
    let lam : pos 0 ≤ℤ is.point.lam = omega (arith, ints, range.lam_within.from) in
    record { eps = subst (λ z. pos 0 ≤ℤ z) (sym is.answers.eps) eps; lam = subst (λ z. pos 0 ≤ℤ z) (sym is.answers.lam) lam }

pub all_printable : (placed : Placed) (p : Params) (a : Axes) (cells : List Cell) → AreCells placed p a cells → All IsPrintable cells
all_printable placed p a cells are k d lt =
    let one = are.each k (subst (λ n. k < n) are.count lt) in
    subst IsPrintable (sym one.1 ∙ get_or_default cells k one.0 d lt) (printable placed p a k one.0 one.2)
