-- the generated problem, and what is due to it
use Rattle.std.proofs.Common.{inl, inr, [], Result, Ok, Err, IfOk}
use Rattle.charge_model.specs.Problem.{Problem}
use Rattle.sidb_units.specs.declared.memory.Memory.{Memory}
use Rattle.sidb_layout.specs.Lattice.{silicon}
use Rattle.sidb_layout.specs.Layout.{Arrangement}
use Rattle.sidb_layout.specs.Refusal.{IsMadeOf}
use Rattle.screened_coulomb.specs.Layouts.{HoldsDistances, IsProblemOf}
use Rattle.ground_state.specs.Answer.{IsOverLimit, IsTooLongWithin}
use Rattle.run_answer.specs.declared.due.Due.{Due}
use Rattle.run_answer.specs.Due.{DueIs}
use Rattle.run_answer.specs.Status.{IsBudgetAnswer, IsLongListAnswer}
use Rattle.command_words.specs.declared.settings.Settings.{Settings}
use Rattle.task_gen.specs.Generator.{sites_for_number}
use Rattle.task_gen.specs.GenAnswer.{IsGenAnswer, IsGenProblem}

-- the problem of the layout of the generated sites
pub problem_of : (s : Settings) (layout : Arrangement) (r : Result Problem Memory) → IsMadeOf silicon (sites_for_number s.generated.number s.generated.sites) [] layout → IfOk r (IsProblemOf layout s.params) → IfOk r (HoldsDistances layout s.params) → IfOk r (IsGenProblem s)
problem_of s layout (Ok p) made of holds = record { layout = layout; made = made; of_layout = of; holds = holds }
problem_of s layout (Err e) made of holds = tt

-- where its search tree has more nodes than the limit
pub over_due : (s : Settings) (p : Problem) (due : Result Due Memory) → IsGenProblem s p → IsOverLimit p s.search.limit → IfOk due (DueIs (IsBudgetAnswer s.search.limit)) → IfOk due (DueIs (IsGenAnswer s))
over_due s p (Err e) of over is = tt
over_due s p (Ok due) of over is = record { ends = is.ends; answers = λ text t. inr (inl (record { problem = p; generated = of; over = over }, is.answers text t)) }

-- where its ground list has too many entries
pub long_due : (s : Settings) (p : Problem) (due : Due) → IsGenProblem s p → IsTooLongWithin p s.search.limit → DueIs IsLongListAnswer due → DueIs (IsGenAnswer s) due
long_due s p due of long is = record { ends = is.ends; answers = λ text t. inr (inr (record { problem = p; generated = of; long = long }, is.answers text t)) }
