use Rattle.sidb_layout.proofs.Kept.{kept_layout}
use Rattle.sidb_layout.specs.Layout.{arrangement_of}
use Rattle.sidb_layout.proofs.layout.without.Goals as goal

pub from_parts-requires : goal.from_parts-requires
from_parts-requires c =
    let fields = c.layout.inside in
    let kept = kept_layout (arrangement_of fields.lattice fields.sites.items fields.fixes.items) c.args.gone.now c.layout.invariant in
    rw (c.in_ok-kept.ensures, c.in_ok-fixes.ensures.items, c.as_slice.ensures.value, c.as_slice-2.ensures.value) kept
