-- what the summary of a generated layout tells, whatever the potentials are inside their spans
use Rattle.std.specs.Prelude.{◌≡◌, ℕ, List}
use Rattle.charge_model.specs.Problem.{Problem}
use Rattle.ground_entries.specs.declared.ground_list.Solved.{Solved}
use Rattle.ground_state.specs.Answer.{IsSolution}
use Rattle.gate_report.specs.GenText.{gen_text}
use Rattle.task_ground.specs.Told.{HoldsUnderEachTable}
use Rattle.command_words.specs.declared.settings.Settings.{Settings}
use Rattle.task_gen.specs.GenAnswer.{IsGenProblem}

-- the summary counts the nodes of the search tree, the entries, and the certain entries of the
-- marked ground list of exactly the problem of the generated layout; under every potential table
-- each ground state of that problem is counted, and each certain entry is a ground state
pub record TellsGeneratedList (s : Settings) (text : List ℕ) : Type 0 where
  pub problem : Problem
  pub generated : IsGenProblem s problem
  pub solved : Solved
  pub solution : IsSolution problem s.search.limit solved
  pub counts : text ≡ gen_text s.generated.number s.generated.sites solved
  pub holds : HoldsUnderEachTable problem solved.list
