-- the settings have an answer
use Rattle.std.proofs.Common.{refl, ℕ, ◌<◌, ◌≤◌, pos, ◌≤ℤ◌, ℤ, List, [], length, ◌⊎◌, inl, inr, Option, arith}
use Rattle.std.proofs.lemmas.Bool.{cases_lt}
use Rattle.std.proofs.lemmas.Int.{ints}
use Rattle.std.proofs.lemmas.List.{length-map}
use Rattle.sidb_units.specs.declared.TheConstants.{MAX_ENTRIES}
use Rattle.charge_model.specs.declared.TheConstants.{MAX_SITES}
use Rattle.charge_model.specs.Problem.{Problem, IsProblem}
use Rattle.charge_model.specs.GroundList.{Entry, IsMarkedGroundList, lists_of}
use Rattle.charge_model.specs.Tree.{IsLeastCertain, node_count}
use Rattle.sidb_layout.specs.Lattice.{silicon}
use Rattle.sidb_layout.specs.Layout.{Arrangement, IsLayout}
use Rattle.sidb_layout.specs.Refusal.{IsMadeOf}
use Rattle.model_params.specs.declared.params.Params.{Params}
use Rattle.screened_coulomb.specs.Layouts.{HoldsDistances, IsProblemOf}
use Rattle.fault_lines.specs.FaultLines.{budget_line, list_too_long_line}
use Rattle.ground_entries.specs.declared.ground_list.Solved.{Solved}
use Rattle.ground_state.specs.Answer.{IsOverLimit, IsSolution, IsWithinLimit}
use Rattle.gate_report.specs.GenText.{gen_text}
use Rattle.run_answer.specs.declared.status.Status.{Status}
use Rattle.run_answer.specs.declared.status.Status.TheVariants.{Answered, Budget, ListTooLong}
use Rattle.command_words.specs.declared.settings.Settings.{Settings}
use Rattle.task_gen.specs.Generator.{sites_for_number}
use Rattle.task_gen.specs.GenAnswer.{IsGenAnswer, IsGenProblem}

-- what layouts have
pub record AreLayoutLaws : Type 0 where
  pub layout : (number count : ℕ) → count ≤ MAX_SITES → (p : Arrangement) × IsMadeOf silicon (sites_for_number number count) [] p
  pub problem : (layout : Arrangement) (p : Params) → IsLayout layout → (q : Problem) × IsProblemOf layout p q × HoldsDistances layout p q × IsProblem q

pub some_problem : AreLayoutLaws → (s : Settings) → (p : Problem) × IsGenProblem s p × IsProblem p
some_problem laws s = with (laws.layout s.generated.number s.generated.sites few)
  where
    few : s.generated.sites ≤ MAX_SITES
    few = let most : pos s.generated.sites ≤ℤ pos 64 = s.generated.in_range.sites_within.to in omega (arith, ints, most)

    with : ((layout : Arrangement) × IsMadeOf silicon (sites_for_number s.generated.number s.generated.sites) [] layout) → (p : Problem) × IsGenProblem s p × IsProblem p
    with (layout, made) = by (laws.problem layout s.params made.layout)
      where
        by : ((q : Problem) × IsProblemOf layout s.params q × HoldsDistances layout s.params q × IsProblem q) → (p : Problem) × IsGenProblem s p × IsProblem p
        by (q, of, holds, valid) = (q, record { layout = layout; made = made; of_layout = of; holds = holds }, valid)

-- what each problem has
pub record AreProblemLaws : Type 0 where
  pub decided : (p : Problem) (limit : ℕ) → IsProblem p → IsWithinLimit p limit ⊎ IsOverLimit p limit
  pub list : (p : Problem) → IsProblem p → (es : List Entry) × IsMarkedGroundList p es

-- some status and text are the answer
abbrev pub HasAnswer : Settings → Type 0
HasAnswer s = (status : Status) × (text : List ℕ) × IsGenAnswer s status text

module _ (laws : AreProblemLaws) (s : Settings) (p : Problem) (of : IsGenProblem s p) (valid : IsProblem p) where
  -- within the limit: the summary, or a list that is too long
  within_budget : (bound : Option ℤ) → IsLeastCertain p bound → node_count p bound ≤ s.search.limit → HasAnswer s
  within_budget bound least budget = with (laws.list p valid)
    where
      with : ((es : List Entry) × IsMarkedGroundList p es) → HasAnswer s
      with (es, marked) = by (cases_lt MAX_ENTRIES (length es))
        where
          by : (MAX_ENTRIES < length es) ⊎ (length es ≤ MAX_ENTRIES) → HasAnswer s
          by (inl many) =
              let long : MAX_ENTRIES < length (lists_of es) = omega (arith, many, length-map es (λ (e : Entry). e.charges)) in
              (ListTooLong, list_too_long_line, inr (inr (record { problem = p; generated = of; long = record { budget = (bound, least, budget); many = (lists_of es, marked.ground, long) } }, (refl, refl))))
          by (inr few) =
              let solved : Solved = record { list = es; bound = bound; nodes = node_count p bound } in
              let solution : IsSolution p s.search.limit solved = record { list = marked; bound = least; nodes = refl; within = budget } in
              (Answered, gen_text s.generated.number s.generated.sites solved, inl (refl, record { problem = p; generated = of; solved = solved; solution = solution; few = few; prints = refl }))

  pub answer_by : IsWithinLimit p s.search.limit ⊎ IsOverLimit p s.search.limit → HasAnswer s
  answer_by (inl (bound, least, budget)) = within_budget bound least budget
  answer_by (inr over) = (Budget, budget_line s.search.limit, inr (inl (record { problem = p; generated = of; over = over }, (refl, refl))))

pub some_answer : AreProblemLaws → ((s : Settings) → (p : Problem) × IsGenProblem s p × IsProblem p) → (s : Settings) → HasAnswer s
some_answer laws problems s = with (problems s)
  where
    with : ((p : Problem) × IsGenProblem s p × IsProblem p) → HasAnswer s
    with (p, of, valid) = answer_by laws s p of valid (laws.decided p s.search.limit valid)
