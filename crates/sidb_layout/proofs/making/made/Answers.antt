use Rattle.std.proofs.Common.{rules}
use Rattle.std.proofs.lemmas.List.Sorted.{answers_always}
use Rattle.sidb_layout.specs.declared.site.Fix.{Fix}
use Rattle.sidb_layout.proofs.Made.{is_made}
use Rattle.sidb_layout.proofs.making.made.Goals as goal

pub from_parts-requires : goal.from_parts-requires
from_parts-requires c =
    let sites_moved = rw c.in_ok-own_sites.ensures.items at c.in_ok-sort.ensures.permutation in
    let fixes_moved = rw c.in_ok-own_fixes.ensures.items at c.in_ok-sort_by_key.ensures.permutation in
    let fixes_sorted = c.in_ok-sort_by_key.ensures.sorted (λ (f : Fix). f.site) (answers_always _ _ _ (λ f a r g called. search rules)) in
    is_made c.args.lattice c.args.sites.now _ c.args.fixes.now _ c.requires sites_moved fixes_moved c.in_ok-sort.ensures.sorted fixes_sorted
