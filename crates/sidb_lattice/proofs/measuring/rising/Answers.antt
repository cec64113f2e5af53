use Rattle.std.proofs.Common.{◌≤◌, length, arith}
use Rattle.std.proofs.lemmas.List.Filters.{dedup_is}
use Rattle.sidb_lattice.proofs.Rising.{rising_made}
use Rattle.sidb_lattice.proofs.measuring.rising.Goals as goal

pub returns : goal.returns
returns c =
    let joined = rw c.in_ok-distances.ensures.items at c.in_ok-extend_from_slice.ensures.items in
    let bound : length c.dedup.new.self.items ≤ length c.sort_unstable.new.self.items =
    omega (arith, c.dedup.ensures.bound, c.dedup.new.self.ok.0, c.sort_unstable.new.self.ok.0) in
    rising_made c.args.pairs.now c.args.near.now _ _ _ joined c.sort_unstable.ensures.permutation c.sort_unstable.ensures.sorted
    (dedup_is _ _ _ c.dedup.ensures.filtered) bound
