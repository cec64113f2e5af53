-- layouts and answers worked by hand
use Rattle.std.proofs.Common.{◌≡◌, ℕ, pos, refl, inl, inr, List, [], ◌∷◌, ◌++◌, codes, arith}
use Rattle.std.specs.Fmt.{digits}
use Rattle.charge_model.specs.declared.charge.Charge.TheVariants.{Neg}
use Rattle.charge_model.specs.declared.mark.Mark.TheVariants.{Certain}
use Rattle.charge_model.specs.Problem.{Problem}
use Rattle.charge_model.specs.GroundList.{Entry}
use Rattle.sidb_layout.specs.declared.site.Site.{Site}
use Rattle.ground_entries.specs.declared.ground_list.Solved.{Solved}
use Rattle.ground_state.specs.Answer.{IsOverLimit, IsSolution}
use Rattle.run_answer.specs.declared.status.Status.TheVariants.{Answered, Budget}
use Rattle.command_words.specs.declared.settings.Settings.{Settings}
use Rattle.task_gen.specs.Generator.{drawn, next_state, sites_for_number}
use Rattle.task_gen.specs.GenAnswer.{IsGenAnswer, IsGenProblem}

-- a line and what follows it
abbrev pub line : List ℕ → List ℕ → List ℕ
line words rest = words ++ 10 ∷ rest

-- the first draw of the number 1
first_draw : drawn (next_state 1) ≡ 908834774
unfolding next_state
first_draw = refl

-- a place
abbrev pub place : ℕ → ℕ → ℕ → Site
place n m l = record { n = pos n; m = pos m; l = pos l }

-- the first sites of the numbers 0 and 1
of_zero : sites_for_number 0 3 ≡ (place 11 0 1 ∷ place 19 2 1 ∷ place 23 2 0 ∷ [])
unfolding next_state
of_zero = refl

of_one : sites_for_number 1 3 ≡ (place 10 0 0 ∷ place 20 0 1 ∷ place 26 1 1 ∷ [])
unfolding next_state
of_one = refl

no_sites : sites_for_number 7 0 ≡ []
no_sites = refl

fault_budget : (s : Settings) (p : Problem) → s.search.limit ≡ 9840 → IsGenProblem s p → IsOverLimit p s.search.limit
    → IsGenAnswer s Budget (line (codes "fault budget 9840") [])
unfolding digits
fault_budget s p limit of over = inr (inl (record { problem = p; generated = of; over = over }, (refl, rw limit refl)))

-- one negative site
abbrev pub entry : Entry
entry = record { charges = Neg ∷ []; mark = Certain }

one_site : (s : Settings) (p : Problem) (solved : Solved) → s.generated.number ≡ 1 → s.generated.sites ≡ 1 → IsGenProblem s p
    → IsSolution p s.search.limit solved → solved.nodes ≡ 2 → solved.list ≡ (entry ∷ [])
    → IsGenAnswer s Answered
    (line (codes "sidb-gen 1") (line (codes "number 1") (line (codes "sites 1") (line (codes "nodes 2") (line (codes "entries 1") (line (codes "certain 1") (line (codes "end") [])))))))
unfolding digits
one_site s p solved number one of solution nodes list = inl (
  refl,
  record {
    problem = p;
    generated = of;
    solved = solved;
    solution = solution;
    few = rw list (omega arith);
    prints = rw (number, one, nodes, list) refl;
  },
)
