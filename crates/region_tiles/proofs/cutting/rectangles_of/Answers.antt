use Rattle.std.proofs.Common.{rules, ◌∙◌, List, IfOk, ap, subst, arith}
use Rattle.std.proofs.lemmas.Int.{ints}
use Rattle.model_params.specs.Quantities.{permittivity, screening_length}
use Rattle.region_tiles.specs.declared.sides.Side.{Side}
use Rattle.region_tiles.specs.Sides.{steps_of}
use Rattle.region_tiles.specs.Rectangles.{AreRectangles}
use Rattle.region_tiles.proofs.CodeLemmas.{steps_in_range}
use Rattle.region_tiles.proofs.cutting.rectangles_of.Goals as goal

pub rectangles_with-requires-clause-eps : goal.rectangles_with-requires-clause-eps
rectangles_with-requires-clause-eps c =
    steps_in_range permittivity c.args.grid.now.eps c.eps.result c.as_slice.result.now c.in_ok-eps.eps.items (omega (arith, ints)) c.eps.ensures.value
    (search rules) c.requires.eps c.in_ok-eps.ensures c.as_slice.ensures.value

pub rectangles_with-requires-clause-lam : goal.rectangles_with-requires-clause-lam
rectangles_with-requires-clause-lam c =
    steps_in_range screening_length c.args.grid.now.lam c.lam.result c.as_slice-2.result.now c.in_ok-lam.lam.items (omega (arith, ints)) c.lam.ensures.value
    (search rules) c.requires.lam c.in_ok-lam.ensures c.as_slice-2.ensures.value

pub returns : goal.returns
returns c =
    let eps = c.as_slice.ensures.value ∙ c.in_ok-eps.ensures ∙ ap steps_of c.eps.ensures.value in
    let lam = c.as_slice-2.ensures.value ∙ c.in_ok-lam.ensures ∙ ap steps_of c.lam.ensures.value in
    subst (λ (es : List Side). IfOk c.rectangles_with.result (λ rs. AreRectangles c.args.params.now es (steps_of c.args.grid.now.lam) rs.items)) eps
    (subst (λ (ls : List Side). IfOk c.rectangles_with.result (λ rs. AreRectangles c.args.params.now c.as_slice.result.now ls rs.items)) lam c.rectangles_with.ensures)
