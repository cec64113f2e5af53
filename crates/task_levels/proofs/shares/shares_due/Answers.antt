use Rattle.std.proofs.Common.{◌∙◌, ap, length}
use Rattle.task_levels.proofs.EntryLists.{lists_are, one_each}
use Rattle.task_levels.proofs.shares.shares_due.Goals as goal

pub occupation-requires-clause-entries : goal.occupation-requires-clause-entries
occupation-requires-clause-entries c = lists_are c.args.problem.now c.args.settings.now.levels.window.width c.args.list.now c.requires.list

pub occupation_text-requires-clause-one_each : goal.occupation_text-requires-clause-one_each
occupation_text-requires-clause-one_each c =
    ap length c.deref.ensures.value ∙ one_each c.args.problem.now _ c.args.list.now c.in_ok-shares.shares.items c.in_ok-shares.ensures.rule
