use Rattle.std.proofs.Common.{◌≡◌, ◌∙◌, ap, subst}
use Rattle.std.proofs.lemmas.Result.{IfOk-weaker}
use Rattle.std.specs.List.{AllZip, flat_map}
use Rattle.region_domain.specs.Region.{AreRegionTiles, AreTilesOf}
use Rattle.region_domain.proofs.grid.region.Goals as goal

pub returns : goal.returns
returns g c =
    let placed = c.args.placed.now in
    let p = c.args.params.now in
    let a = c.args.grid.now in
    let lists = c.in_ok-all.all.items in
    IfOk-weaker c.joined.result (λ tiles. tiles.items ≡ flat_map (λ ts. ts) c.as_slice-2.result.now) (λ tiles. AreRegionTiles placed p a c.args.depth tiles.items)
    (λ tiles same. record {
      rectangles = c.in_ok-rectangles.rectangles.items;
      of_grid = c.in_ok-rectangles.ensures;
      refined = record {
        lists = lists;
        each = subst (λ rs. AllZip (AreTilesOf placed c.args.depth) rs lists) c.as_slice.ensures.value c.in_ok-all.ensures;
        joined = same ∙ ap (flat_map (λ ts. ts)) c.as_slice-2.ensures.value;
      };
    }) c.joined.ensures
