use Rattle.task_levels.proofs.SomeAnswer.{AreListLaws, some_occupation}
use Rattle.task_levels.proofs.laws.some_occupation_answer.Goals as goal

pub returns : goal.returns
returns c s p valid =
    let laws : AreListLaws = record { bound = c.least_certain_energies_exist.ensures; list = c.each_problem_has_a_marked_window_list.ensures } in
    some_occupation laws s p valid c.each_list_has_shares.ensures
