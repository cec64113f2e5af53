-- what an answered summary tells
use Rattle.std.proofs.Common.{inl, inr, ℕ, List}
use Rattle.charge_model.specs.Problem.{Problem}
use Rattle.charge_model.specs.GroundList.{Entry, IsMarkedGroundList}
use Rattle.run_answer.specs.declared.status.Status.TheVariants.{Answered}
use Rattle.task_ground.specs.Told.{HoldsUnderEachTable}
use Rattle.command_words.specs.declared.settings.Settings.{Settings}
use Rattle.task_gen.specs.GenAnswer.{IsGenAnswer, IsGenReport}
use Rattle.task_gen.specs.Told.{TellsGeneratedList}

-- an answer that is given is a summary
report_in : (s : Settings) (text : List ℕ) → IsGenAnswer s Answered text → IsGenReport s text
report_in s text (inl is) = is.1
report_in s text (inr (inl over)) = let wrong = over.1.0 in absurd (cc)
report_in s text (inr (inr long)) = let wrong = long.1.0 in absurd (cc)

pub tells : ((p : Problem) (es : List Entry) → IsMarkedGroundList p es → HoldsUnderEachTable p es) → (s : Settings) (text : List ℕ) → IsGenAnswer s Answered text → TellsGeneratedList s text
tells holds s text is =
    let report = report_in s text is in
    record {
      problem = report.problem;
      generated = report.generated;
      solved = report.solved;
      solution = report.solution;
      counts = report.prints;
      holds = holds report.problem report.solved.list report.solution.list;
    }
