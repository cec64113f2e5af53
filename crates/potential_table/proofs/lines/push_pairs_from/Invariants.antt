use Rattle.std.proofs.Common.{◌≡◌, ◌++◌, map, suc, ◌-◌}
use Rattle.std.specs.List.{range_with_len}
use Rattle.potential_table.specs.TableRows.{pair_line}
use Rattle.potential_table.proofs.lines.push_pairs_from.Given as goal

abbrev pub invariant-loop-j : goal.invariant-loop-j
invariant-loop-j l = l.lines.items ≡ l.fn.lines.items ++ map (pair_line l.problem l.i) (range_with_len (suc l.i) (l.j - suc l.i))
