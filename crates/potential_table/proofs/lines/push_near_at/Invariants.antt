use Rattle.std.proofs.Common.{◌≡◌, ◌++◌, map, ◌-◌}
use Rattle.std.specs.List.{range_with_len}
use Rattle.potential_table.specs.TableRows.{near_line}
use Rattle.potential_table.proofs.lines.push_near_at.Given as goal

abbrev pub invariant-loop-a : goal.invariant-loop-a
invariant-loop-a l = l.lines.items ≡ l.fn.lines.items ++ map (near_line l.problem l.i) (range_with_len 0 (l.a - 0))
