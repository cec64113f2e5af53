use Rattle.task_levels.proofs.SomeAnswer.{AreListLaws, some_answer}
use Rattle.task_levels.proofs.laws.some_window_list_answer.Goals as goal

pub returns : goal.returns
returns c s about p valid =
    let laws : AreListLaws = record { bound = c.least_certain_energies_exist.ensures; list = c.each_problem_has_a_marked_window_list.ensures } in
    some_answer laws s p valid c.entries_have_energies.ensures about
