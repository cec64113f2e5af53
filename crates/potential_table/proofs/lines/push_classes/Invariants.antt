use Rattle.std.proofs.Common.{◌≡◌, ◌++◌, map, take}
use Rattle.table_lines.specs.declared.line.TableLine.TheVariants.{Class}
use Rattle.potential_table.proofs.lines.push_classes.Given as goal

abbrev pub invariant-loop-class : goal.invariant-loop-class
invariant-loop-class l = l.lines.items ≡ l.fn.lines.items ++ map (λ s. Class s.lo s.hi) (take l.class l.problem.spans)
