-- the areas of tiles by their answers are together their area
use Rattle.std.proofs.Common.{◌≡◌, ℕ, ◌+◌, List, [], ◌∷◌, refl, arith}
use Rattle.std.proofs.lemmas.List.Sums.{sum_by-cons}
use Rattle.bdl_pairs.specs.declared.cell.CellAnswer.{CellAnswer}
use Rattle.bdl_pairs.specs.declared.cell.CellAnswer.TheVariants.{Works, Fails, Undecided, Budget, Long}
use Rattle.region_tiles.specs.declared.tiles.Tile.{Tile}
use Rattle.region_tiles.specs.Tiles.{area_of}
use Rattle.region_tiles.specs.Areas.{area_where, fails, failing_area, open_area, stays_open, whole_area, working_area, works}
use Rattle.std.specs.Prelude.{if◌then◌else◌}

one_answer : (a : CellAnswer) (n : ℕ) → (if works a then n else 0) + (if fails a then n else 0) + (if stays_open a then n else 0) ≡ n
one_answer Works n = omega arith
one_answer (Fails k) n = omega arith
one_answer (Undecided k) n = omega arith
one_answer (Budget k) n = omega arith
one_answer (Long k) n = omega arith

pub areas_add : (tiles : List Tile) → working_area tiles + failing_area tiles + open_area tiles ≡ whole_area tiles
areas_add [] = refl
areas_add (t ∷ ts) =
    let here = one_answer t.answer (area_of t.rectangle) in
    let rest = areas_add ts in
    let working = sum_by-cons (area_where works) t ts in
    let failing = sum_by-cons (area_where fails) t ts in
    let unknown = sum_by-cons (area_where stays_open) t ts in
    let all = sum_by-cons (λ (t : Tile). area_of t.rectangle) t ts in
    omega (arith, here, rest, working, failing, unknown, all)
