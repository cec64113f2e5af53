-- what a number answers
use Rattle.std.specs.Prelude.{◌≡◌, ◌⊎◌, ℕ, ◌≤◌, List, [], length}
use Rattle.charge_model.specs.Problem.{Problem}
use Rattle.sidb_units.specs.declared.TheConstants.{MAX_ENTRIES}
use Rattle.sidb_layout.specs.Layout.{Arrangement}
use Rattle.sidb_layout.specs.Lattice.{silicon}
use Rattle.sidb_layout.specs.Refusal.{IsMadeOf}
use Rattle.screened_coulomb.specs.Layouts.{HoldsDistances, IsProblemOf}
use Rattle.ground_entries.specs.declared.ground_list.Solved.{Solved}
use Rattle.ground_state.specs.Answer.{IsOverLimit, IsSolution, IsTooLongWithin}
use Rattle.gate_report.specs.GenText.{gen_text}
use Rattle.run_answer.specs.declared.status.Status.{Status}
use Rattle.run_answer.specs.declared.status.Status.TheVariants.{Answered}
use Rattle.run_answer.specs.Status.{IsBudgetAnswer, IsLongListAnswer}
use Rattle.command_words.specs.declared.settings.Settings.{Settings}
use Rattle.task_gen.specs.Generator.{sites_for_number}

-- the problem of the layout that the number generates, on the default lattice and without fixed
-- charges, by the parameters: the span of each class holds the distance of its pairs
pub record IsGenProblem (s : Settings) (p : Problem) : Type 0 where
  pub layout : Arrangement
  pub made : IsMadeOf silicon (sites_for_number s.generated.number s.generated.sites) [] layout
  pub of_layout : IsProblemOf layout s.params p
  pub holds : HoldsDistances layout s.params p

-- the summary of its solution, whose list has at most 4,096 entries
pub record IsGenReport (s : Settings) (text : List ℕ) : Type 0 where
  pub problem : Problem
  pub generated : IsGenProblem s problem
  pub solved : Solved
  pub solution : IsSolution problem s.search.limit solved
  pub few : length solved.list ≤ MAX_ENTRIES
  pub prints : text ≡ gen_text s.generated.number s.generated.sites solved

-- the search tree of that problem has more nodes than the limit
pub record IsGenOver (s : Settings) : Type 0 where
  pub problem : Problem
  pub generated : IsGenProblem s problem
  pub over : IsOverLimit problem s.search.limit

-- it has not, and the ground list has too many entries
pub record IsGenLong (s : Settings) : Type 0 where
  pub problem : Problem
  pub generated : IsGenProblem s problem
  pub long : IsTooLongWithin problem s.search.limit

-- why there is no summary
abbrev pub IsGenUnlisted : Settings → Status → List ℕ → Type 0
IsGenUnlisted s status text = (IsGenOver s × IsBudgetAnswer s.search.limit status text)
    ⊎ (IsGenLong s × IsLongListAnswer status text)

-- the summary, or the line that says why there is none
abbrev pub IsGenAnswer : Settings → Status → List ℕ → Type 0
IsGenAnswer s status text =
    ((status ≡ Answered) × IsGenReport s text) ⊎ IsGenUnlisted s status text
