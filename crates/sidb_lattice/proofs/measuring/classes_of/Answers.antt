use Rattle.sidb_lattice.proofs.Rising.{all_first, all_second}
use Rattle.sidb_lattice.proofs.Assembled.{AreLists, is_classing, are_classes}
use Rattle.sidb_lattice.proofs.measuring.classes_of.Goals as goal

pub places_in-requires-clause-present : goal.places_in-requires-clause-present
places_in-requires-clause-present c =
    let lists = rw (c.as_slice.ensures.value, c.as_slice-2.ensures.value) at c.in_ok-distances.ensures in
    rw (c.as_slice-3.ensures.value, c.as_slice-4.ensures.value) (all_first _ _ _ lists)

pub places_in-requires-2-clause-present : goal.places_in-requires-2-clause-present
places_in-requires-2-clause-present c =
    let lists = rw (c.as_slice.ensures.value, c.as_slice-2.ensures.value) at c.in_ok-distances.ensures in
    rw (c.as_slice-5.ensures.value, c.as_slice-6.ensures.value) (all_second _ _ _ lists)

pub from_parts-requires : goal.from_parts-requires
from_parts-requires c =
    let given : AreLists c.args.layout.now c.in_ok-pairs.pairs.items c.in_ok-near.near.items c.in_ok-distances.distances.items c.in_ok-pair_classes.pair_classes.items c.in_ok-near_classes.near_classes.items =
    record {
      layout = c.len-sites.ensures.layout;
      of_pairs = c.in_ok-pairs.ensures;
      of_near = c.in_ok-near.ensures;
      rising = rw (c.as_slice.ensures.value, c.as_slice-2.ensures.value) at c.in_ok-distances.ensures;
      pair_places = rw (c.as_slice-3.ensures.value, c.as_slice-4.ensures.value) at c.in_ok-pair_classes.ensures;
      near_places = rw (c.as_slice-5.ensures.value, c.as_slice-6.ensures.value) at c.in_ok-near_classes.ensures;
    } in
    rw (c.len-sites.ensures.value, c.fixes-fixes.ensures.value) (is_classing _ _ _ _ _ _ given)

pub returns : goal.returns
returns c =
    let given : AreLists c.args.layout.now c.in_ok-pairs.pairs.items c.in_ok-near.near.items c.in_ok-distances.distances.items c.in_ok-pair_classes.pair_classes.items c.in_ok-near_classes.near_classes.items =
    record {
      layout = c.len-sites.ensures.layout;
      of_pairs = c.in_ok-pairs.ensures;
      of_near = c.in_ok-near.ensures;
      rising = rw (c.as_slice.ensures.value, c.as_slice-2.ensures.value) at c.in_ok-distances.ensures;
      pair_places = rw (c.as_slice-3.ensures.value, c.as_slice-4.ensures.value) at c.in_ok-pair_classes.ensures;
      near_places = rw (c.as_slice-5.ensures.value, c.as_slice-6.ensures.value) at c.in_ok-near_classes.ensures;
    } in
    rw (c.from_parts.ensures, c.len-sites.ensures.value, c.fixes-fixes.ensures.value) (are_classes _ _ _ _ _ _ given)
