use Rattle.std.proofs.Common.{◌≡◌, ◌≤◌, length, ◌+◌, ◌-◌}
use Rattle.sidb_io.specs.Outside.{Gave}
use Rattle.sidb_io.proofs.read_whole.read_all.Given as goal

abbrev pub invariant-loop-block : goal.invariant-loop-block
invariant-loop-block g l = record {
  given : Gave (g.S.Source.left l.fn.source) l.bytes.items (g.S.Source.left l.source);
  within : length l.bytes.items ≤ l.limit + 1;
  same : g.S.Source.faults l.source ≡ g.S.Source.faults l.fn.source;
}

abbrev pub decreases-loop-block : goal.decreases-loop-block
decreases-loop-block g l = l.limit + 1 - length l.bytes.items
