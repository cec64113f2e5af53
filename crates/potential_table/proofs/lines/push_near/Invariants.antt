use Rattle.std.proofs.Common.{◌≡◌, ◌++◌}
use Rattle.std.specs.List.{range_with_len, flat_map}
use Rattle.potential_table.specs.TableRows.{near_at}
use Rattle.potential_table.proofs.lines.push_near.Given as goal

abbrev pub invariant-loop-i : goal.invariant-loop-i
invariant-loop-i l = l.lines.items ≡ l.fn.lines.items ++ flat_map (near_at l.problem) (range_with_len 0 l.i)
