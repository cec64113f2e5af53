use Rattle.std.proofs.Common.{ap, ◌∙◌, subst, IfOk}
use Rattle.std.specs.List.{AllZip}
use Rattle.region_domain.specs.Region.{AreTilesOf}
use Rattle.region_domain.proofs.Gathering.{gathered}
use Rattle.region_domain.proofs.grid.tiles_at.Goals as goal

pub returns : goal.returns
returns g c =
    let slice = ap (λ it. it.base.slice.now) c.map.ensures.base ∙ ap (λ it. it.slice.now) c.with_min_len.ensures.base ∙ c.par_iter.ensures in
    let chain = c.in_ok-gathered.ensures.1 in
    subst (λ f. IfOk c.in_ok-gathered.gathered (λ v. AllZip (AreTilesOf f.1.now f.2.now) c.args.rectangles.now v.items)) c.map.ensures.f
    (gathered (AreTilesOf c.map.result.f.1.now c.map.result.f.2.now) (λ all. all.items) c.in_ok-gathered.gathered
    chain.0 c.args.rectangles.now c.in_ok-gathered.ensures.0 (chain.1 ∙ slice) chain.2 c.in_ok-gathered.ensures.2)
