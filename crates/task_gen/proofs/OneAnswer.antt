-- the settings have one answer
use Rattle.std.proofs.Common.{◌≡◌, ◌∙◌, ◌≤◌, inl, inr, sym, subst, refl, ℕ, ℤ, List, Option, length}
use Rattle.charge_model.specs.Problem.{Problem}
use Rattle.charge_model.specs.GroundList.{Entry}
use Rattle.charge_model.specs.Tree.{IsLeastCertain, node_count}
use Rattle.sidb_units.specs.declared.TheConstants.{MAX_ENTRIES}
use Rattle.ground_entries.specs.declared.ground_list.Solved.{Solved}
use Rattle.ground_state.specs.Answer.{IsListedWithin, IsOverLimit, IsSolution, IsTooLongWithin, IsWithinLimit}
use Rattle.gate_report.specs.GenText.{gen_text}
use Rattle.run_answer.specs.declared.status.Status.{Status}
use Rattle.command_words.specs.declared.settings.Settings.{Settings}
use Rattle.task_gen.specs.GenAnswer.{IsGenAnswer, IsGenProblem, IsGenReport, IsGenUnlisted}

-- each part of an answer is one
pub record PartsAreOne : Type 0 where
  pub problem : (s : Settings) (p q : Problem) → IsGenProblem s p → IsGenProblem s q → p ≡ q
  pub list : (p : Problem) (limit : ℕ) (es fs : List Entry) → IsListedWithin p limit es → IsListedWithin p limit fs → es ≡ fs
  pub not_long : (p : Problem) (limit : ℕ) (es : List Entry) → IsListedWithin p limit es → IsTooLongWithin p limit → ⊥
  pub budget : (p : Problem) (limit : ℕ) → IsWithinLimit p limit → IsOverLimit p limit → ⊥
  pub listed : (p : Problem) (limit : ℕ) (s : Solved) → IsSolution p limit s → length s.list ≤ MAX_ENTRIES → IsListedWithin p limit s.list
  pub bound : (p : Problem) (a b : Option ℤ) → IsLeastCertain p a → IsLeastCertain p b → a ≡ b

-- the summary reads the nodes and the list alone
same_text : (number sites : ℕ) (a b : Solved) → a.nodes ≡ b.nodes → a.list ≡ b.list → gen_text number sites a ≡ gen_text number sites b
same_text number sites a b nodes list = rw (nodes, list) refl

module _ (one : PartsAreOne) (settings : Settings) where
  -- two solutions of one problem have the same nodes
  same_nodes : (p : Problem) (a b : Solved) → IsSolution p settings.search.limit a → IsSolution p settings.search.limit b → a.nodes ≡ b.nodes
  same_nodes p a b first second =
      let bound = one.bound p a.bound b.bound first.bound second.bound in
      first.nodes ∙ subst (λ x. node_count p a.bound ≡ node_count p x) bound refl ∙ sym second.nodes

  same_report : (t u : List ℕ) → IsGenReport settings t → IsGenReport settings u → t ≡ u
  same_report t u a b =
      let problem = one.problem settings a.problem b.problem a.generated b.generated in
      let solution = subst (λ p. IsSolution p settings.search.limit a.solved) problem a.solution in
      let first = one.listed b.problem settings.search.limit a.solved solution a.few in
      let second = one.listed b.problem settings.search.limit b.solved b.solution b.few in
      let list = one.list b.problem settings.search.limit a.solved.list b.solved.list first second in
      let nodes = same_nodes b.problem a.solved b.solved solution b.solution in
      a.prints ∙ same_text settings.generated.number settings.generated.sites a.solved b.solved nodes list ∙ sym b.prints

  -- the search of a problem ends within the limit, or it does not
  not_over_and_long : (p q : Problem) → IsGenProblem settings p → IsGenProblem settings q → IsWithinLimit p settings.search.limit → IsOverLimit q settings.search.limit → ⊥
  not_over_and_long p q is of within over =
      let problem = one.problem settings q p of is in
      one.budget p settings.search.limit within (subst (λ x. IsOverLimit x settings.search.limit) problem over)

  same_unlisted : (s r : Status) (t u : List ℕ) → IsGenUnlisted settings s t → IsGenUnlisted settings r u → (s ≡ r) × (t ≡ u)
  same_unlisted s r t u (inl a) (inl b) = (a.1.0 ∙ sym b.1.0, a.1.1 ∙ sym b.1.1)
  same_unlisted s r t u (inl a) (inr b) = absurd (not_over_and_long b.0.problem a.0.problem b.0.generated a.0.generated b.0.long.budget a.0.over)
  same_unlisted s r t u (inr a) (inl b) = absurd (not_over_and_long a.0.problem b.0.problem a.0.generated b.0.generated a.0.long.budget b.0.over)
  same_unlisted s r t u (inr a) (inr b) = (a.1.0 ∙ sym b.1.0, a.1.1 ∙ sym b.1.1)

  -- settings with a summary have no other answer
  not_unlisted : (s : Status) (t u : List ℕ) → IsGenReport settings t → IsGenUnlisted settings s u → ⊥
  not_unlisted s t u report (inl over) =
      let listed = one.listed report.problem settings.search.limit report.solved report.solution report.few in
      not_over_and_long report.problem over.0.problem report.generated over.0.generated listed.budget over.0.over
  not_unlisted s t u report (inr long) =
      let listed = one.listed report.problem settings.search.limit report.solved report.solution report.few in
      let problem = one.problem settings long.0.problem report.problem long.0.generated report.generated in
      one.not_long report.problem settings.search.limit report.solved.list listed (subst (λ x. IsTooLongWithin x settings.search.limit) problem long.0.long)

  pub same_answer : (s r : Status) (t u : List ℕ) → IsGenAnswer settings s t → IsGenAnswer settings r u → (s ≡ r) × (t ≡ u)
  same_answer s r t u (inl a) (inl b) = (a.0 ∙ sym b.0, same_report t u a.1 b.1)
  same_answer s r t u (inl a) (inr b) = absurd (not_unlisted r t u a.1 b)
  same_answer s r t u (inr a) (inl b) = absurd (not_unlisted s u t b.1 a)
  same_answer s r t u (inr a) (inr b) = same_unlisted s r t u a b
