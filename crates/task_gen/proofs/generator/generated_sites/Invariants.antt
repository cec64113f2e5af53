use Rattle.std.proofs.Common.{◌≡◌, ◌≤◌, ◌*◌, ◌-◌, ◌++◌}
use Rattle.task_gen.specs.Generator.{generated}
use Rattle.task_gen.proofs.generator.generated_sites.Given as goal

abbrev pub invariant-loop-i : goal.invariant-loop-i
invariant-loop-i l = record {
  near : l.column ≤ 11 * l.i;
  rest : l.sites.items ++ generated (l.count - l.i) l.state l.column ≡ generated l.count l.number 0;
}
