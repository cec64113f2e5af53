use Rattle.task_levels.proofs.EntryLists.{entries_of}
use Rattle.task_levels.proofs.window.list_due.Goals as goal

pub window_text-requires : goal.window_text-requires
window_text-requires c = record { entries = entries_of c.args.problem.now c.args.settings.now.levels.window.width c.args.list.now c.requires.list }
