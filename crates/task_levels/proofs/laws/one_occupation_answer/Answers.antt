use Rattle.task_levels.proofs.OneAnswer.{ListsAreOne, same_occupation}
use Rattle.task_levels.proofs.laws.one_occupation_answer.Goals as goal

pub returns : goal.returns
returns c s p =
    let one : ListsAreOne = record {
      list = c.one_window_answer.ensures.list;
      length = c.one_window_answer.ensures.length;
      budget = c.one_window_answer.ensures.budget;
    } in
    same_occupation one s p c.lists_have_one_list_of_shares.ensures
