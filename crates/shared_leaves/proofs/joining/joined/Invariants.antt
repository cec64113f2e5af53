use Rattle.std.proofs.Common.{◌≡◌, ◌≤◌}
use Rattle.std.specs.Prelude.{sum_by}
use Rattle.std.specs.List.{flat_map}
use Rattle.shared_leaves.proofs.joining.joined.Given as goal

abbrev pub invariant-loop-part : goal.invariant-loop-part
invariant-loop-part l =
    (l.whole.lists ≡ flat_map (λ part. part.lists) l.yielded) × (l.whole.nodes ≡ sum_by (λ part. part.nodes) l.yielded) × (l.whole.nodes ≤ l.limit)
