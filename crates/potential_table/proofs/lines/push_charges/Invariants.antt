use Rattle.std.proofs.Common.{◌≡◌, ◌++◌, map, take}
use Rattle.table_lines.specs.declared.line.TableLine.TheVariants.{Charge}
use Rattle.potential_table.proofs.lines.push_charges.Given as goal

abbrev pub invariant-loop-a : goal.invariant-loop-a
invariant-loop-a l = l.lines.items ≡ l.fn.lines.items ++ map Charge (take l.a l.problem.fixed_charges)
