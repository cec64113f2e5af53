use Rattle.task_levels.proofs.OneAnswer.{ListsAreOne, same_answer}
use Rattle.task_levels.proofs.laws.one_window_list_answer.Goals as goal

pub returns : goal.returns
returns c s about p =
    let one : ListsAreOne = record {
      list = c.one_window_answer.ensures.list;
      length = c.one_window_answer.ensures.length;
      budget = c.one_window_answer.ensures.budget;
    } in
    same_answer one s p c.one_window_text.ensures about
