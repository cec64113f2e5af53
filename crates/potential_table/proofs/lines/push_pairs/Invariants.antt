use Rattle.std.proofs.Common.{◌≡◌, ◌++◌}
use Rattle.std.specs.List.{range_with_len, flat_map}
use Rattle.potential_table.specs.TableRows.{pairs_from}
use Rattle.potential_table.proofs.lines.push_pairs.Given as goal

abbrev pub invariant-loop-i : goal.invariant-loop-i
invariant-loop-i l = l.lines.items ≡ l.fn.lines.items ++ flat_map (pairs_from l.problem) (range_with_len 0 l.i)
