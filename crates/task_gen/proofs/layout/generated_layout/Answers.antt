use Rattle.std.proofs.Common.{◌∙◌}
use Rattle.task_gen.proofs.Fine.{is_memory}
use Rattle.task_gen.proofs.layout.generated_layout.Goals as goal

pub only_memory-requires : goal.only_memory-requires
only_memory-requires c = is_memory c.args.number c.args.count c.as_slice.result.now c.layout_of.result c.in-Err.fault c.requires (c.as_slice.ensures.value ∙ c.in_ok-sites.ensures) c.in-Err.is c.layout_of.ensures.refused c.layout_of.ensures.never_too_close
