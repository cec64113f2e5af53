use Rattle.std.proofs.Common.{◌<◌, ◌≤◌, sym, subst}
use Rattle.charge_model.specs.Tree.{node_count}
use Rattle.ground_state.proofs.Thresholds.{no_window}
use Rattle.ground_state.proofs.laws.window_answers_at_zero.Goals as goal

pub returns-clause-list : goal.returns-clause-list
returns-clause-list c = λ p limit es. let same = c.marks_at_zero_are_ground_marks.ensures.marked p es in (
  λ is. record { budget = (is.budget.0, is.budget.1, subst (λ b. node_count p b ≤ limit) (no_window is.budget.0) is.budget.2); list = same.0 is.list; few = is.few },
  λ is. record { budget = (is.budget.0, is.budget.1, subst (λ b. node_count p b ≤ limit) (sym (no_window is.budget.0)) is.budget.2); list = same.1 is.list; few = is.few },
)

pub returns-clause-budget : goal.returns-clause-budget
returns-clause-budget c = λ p limit. (
  λ (bound, least, over). (bound, least, subst (λ b. limit < node_count p b) (no_window bound) over),
  λ (bound, least, over). (bound, least, subst (λ b. limit < node_count p b) (sym (no_window bound)) over),
)

pub returns-clause-length : goal.returns-clause-length
returns-clause-length c = λ p limit. (
  λ is. record {
    budget = (is.budget.0, is.budget.1, subst (λ b. node_count p b ≤ limit) (no_window is.budget.0) is.budget.2);
    many = (is.many.0, (c.window_lists_at_zero_are_ground_lists.ensures.list p is.many.0).0 is.many.1, is.many.2);
  },
  λ is. record {
    budget = (is.budget.0, is.budget.1, subst (λ b. node_count p b ≤ limit) (sym (no_window is.budget.0)) is.budget.2);
    many = (is.many.0, (c.window_lists_at_zero_are_ground_lists.ensures.list p is.many.0).1 is.many.1, is.many.2);
  },
)
