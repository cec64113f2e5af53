-- a pattern has one answer, and a gate one table
use Rattle.std.proofs.Common.{◌≡◌, ◌∙◌, sym, ap, subst, ℕ, ◌<◌, ◌≤◌, ◌⊎◌, inl, inr, List, arith}
use Rattle.std.specs.Prelude.{Bool}
use Rattle.std.proofs.lemmas.Bool.{cases_lt}
use Rattle.charge_model.specs.Problem.{Problem}
use Rattle.charge_model.specs.GroundList.{Entry}
use Rattle.sidb_layout.specs.Layout.{Arrangement, IsLayout}
use Rattle.model_params.specs.declared.params.Params.{Params}
use Rattle.screened_coulomb.specs.Layouts.{IsProblemOf}
use Rattle.ground_state.specs.Answer.{IsListedWithin, IsOverLimit, IsTooLongWithin, IsWithinLimit}
use Rattle.gate_model.specs.declared.pairs.PairOf.{PairOf}
use Rattle.gate_model.specs.Logic.{pattern_count}
use Rattle.bdl_pairs.specs.declared.truth.PatternAnswer.{PatternAnswer}
use Rattle.bdl_pairs.specs.declared.verdicts.PatternVerdict.{PatternVerdict}
use Rattle.bdl_pairs.specs.Remaining.{Remaining}
use Rattle.bdl_pairs.specs.Verdict.{IsVerdict}
use Rattle.operational_domain.specs.Patterns.{Setting, IsPatternAnswer, IsPatternLong, IsPatternOver, IsPatternProblem}
use Rattle.operational_domain.specs.Truth.{AreAnswers, IsFirstLong, IsFirstOver}
use Rattle.operational_domain.proofs.ListsInOrder.{same_lists}
use Rattle.operational_domain.proofs.Leaving.{one_left}

-- each part of an answer is one
pub record PartsAreOne : Type 0 where
  pub problem : (layout : Arrangement) (p : Params) (a b : Problem) → IsProblemOf layout p a → IsProblemOf layout p b → a ≡ b
  pub list : (p : Problem) (limit : ℕ) (es fs : List Entry) → IsListedWithin p limit es → IsListedWithin p limit fs → es ≡ fs
  pub length : (p : Problem) (limit : ℕ) (es : List Entry) → IsListedWithin p limit es → IsTooLongWithin p limit → ⊥
  pub budget : (p : Problem) (limit : ℕ) → IsWithinLimit p limit → IsOverLimit p limit → ⊥
  pub verdict : (outputs : List PairOf) (wanted : Bool) (es : List Entry) (v w : PatternVerdict) → IsVerdict outputs wanted es v → IsVerdict outputs wanted es w → v ≡ w

-- these parts together
abbrev answer_of : Bool → PatternVerdict → List Entry → PatternAnswer
answer_of wanted verdict list = record { wanted = wanted; verdict = verdict; list = list }

module _ (one : PartsAreOne) (s : Setting) (valid : IsLayout s.whole) where
  -- what a pattern leaves, and its problem
  same_problem : (k : ℕ) (l m : Remaining) (p q : Problem) → IsPatternProblem s k l p → IsPatternProblem s k m q → (l ≡ m) × (p ≡ q)
  same_problem k l m p q a b =
      let left = one_left s.whole s.gate k l m valid a.left_by b.left_by in
      (left, one.problem m.layout s.params p q (subst (λ (r : Remaining). IsProblemOf r.layout s.params p) left a.problem_of) b.problem_of)

  pub same_answer : (k : ℕ) (x y : PatternAnswer) → IsPatternAnswer s k x → IsPatternAnswer s k y → x ≡ y
  same_answer k x y a b =
      let same = same_problem k a.left b.left a.problem b.problem a.of_pattern b.of_pattern in
      let lists : x.list ≡ y.list = one.list b.problem s.limit x.list y.list (subst (λ p. IsListedWithin p s.limit x.list) same.1 a.listed) b.listed in
      let bits : x.wanted ≡ y.wanted = a.wanted ∙ sym b.wanted in
      let at_left : IsVerdict b.left.outputs x.wanted x.list x.verdict = subst (λ (r : Remaining). IsVerdict r.outputs x.wanted x.list x.verdict) same.0 a.verdict in
      let at_bit : IsVerdict b.left.outputs y.wanted x.list x.verdict = subst (λ w. IsVerdict b.left.outputs w x.list x.verdict) bits at_left in
      let judged : IsVerdict b.left.outputs y.wanted y.list x.verdict = subst (λ es. IsVerdict b.left.outputs y.wanted es x.verdict) lists at_bit in
      let verdicts : x.verdict ≡ y.verdict = one.verdict b.left.outputs y.wanted y.list x.verdict y.verdict judged b.verdict in
      ap (λ w. answer_of w x.verdict x.list) bits ∙ ap (λ v. answer_of y.wanted v x.list) verdicts ∙ ap (λ es. answer_of y.wanted y.verdict es) lists

  pub not_over : (k : ℕ) (x : PatternAnswer) → IsPatternAnswer s k x → IsPatternOver s k → ⊥
  not_over k x a b =
      let same = same_problem k a.left b.left a.problem b.problem a.of_pattern b.of_pattern in
      one.budget b.problem s.limit (subst (λ p. IsWithinLimit p s.limit) same.1 a.listed.budget) b.over

  pub not_long : (k : ℕ) (x : PatternAnswer) → IsPatternAnswer s k x → IsPatternLong s k → ⊥
  not_long k x a b =
      let same = same_problem k a.left b.left a.problem b.problem a.of_pattern b.of_pattern in
      one.length b.problem s.limit x.list (subst (λ p. IsListedWithin p s.limit x.list) same.1 a.listed) b.long

  pub over_or_long : (k : ℕ) → IsPatternOver s k → IsPatternLong s k → ⊥
  over_or_long k a b =
      let same = same_problem k a.left b.left a.problem b.problem a.of_pattern b.of_pattern in
      one.budget b.problem s.limit b.long.budget (subst (λ p. IsOverLimit p s.limit) same.1 a.over)

  pub same_table : (n : ℕ) (xs ys : List PatternAnswer) → AreAnswers s n xs → AreAnswers s n ys → xs ≡ ys
  same_table n xs ys a b = same_lists (IsPatternAnswer s) same_answer n xs ys a.count b.count a.each b.each

  pub table_or_over : (xs : List PatternAnswer) → AreAnswers s (pattern_count s.gate) xs → IsFirstOver s → ⊥
  table_or_over xs a b = let answer = a.each b.pattern b.within in not_over b.pattern answer.0 answer.2 b.over

  pub table_or_long : (xs : List PatternAnswer) → AreAnswers s (pattern_count s.gate) xs → IsFirstLong s → ⊥
  table_or_long xs a b = let answer = a.each b.pattern b.within in not_long b.pattern answer.0 answer.2 b.long

  pub first_over_or_long : IsFirstOver s → IsFirstLong s → ⊥
  first_over_or_long a b = by (cases_lt a.pattern b.pattern) (cases_lt b.pattern a.pattern)
    where
      by : (a.pattern < b.pattern) ⊎ (b.pattern ≤ a.pattern) → (b.pattern < a.pattern) ⊎ (a.pattern ≤ b.pattern) → ⊥
      by (inl less) other = let answer = b.first a.pattern less in not_over a.pattern answer.0 answer.1 a.over
      by (inr most) (inl more) = let answer = a.first b.pattern more in not_long b.pattern answer.0 answer.1 b.long
      by (inr most) (inr least) =
          let same : a.pattern ≡ b.pattern = omega (arith, most, least) in over_or_long b.pattern (subst (IsPatternOver s) same a.over) b.long
