-- a gate has one answer on a rectangle
use Rattle.std.proofs.Common.{◌≡◌, ◌∙◌, sym, ap, refl, subst, ℕ, ◌<◌, ◌≤◌, ◌⊎◌, inl, inr, List, arith}
use Rattle.std.specs.Prelude.{Bool}
use Rattle.std.proofs.lemmas.Bool.{cases_lt}
use Rattle.charge_model.specs.Problem.{Problem}
use Rattle.charge_model.specs.GroundList.{Entry}
use Rattle.sidb_layout.specs.Layout.{Arrangement, IsLayout}
use Rattle.ground_state.specs.Answer.{IsListedWithin, IsOverLimit, IsTooLongWithin, IsWithinLimit}
use Rattle.gate_model.specs.declared.pairs.PairOf.{PairOf}
use Rattle.gate_model.specs.Logic.{Logic, pattern_count}
use Rattle.bdl_pairs.specs.declared.verdicts.PatternVerdict.{PatternVerdict}
use Rattle.bdl_pairs.specs.declared.verdicts.PatternVerdict.TheVariants.{Works as PatternWorks, Fails as PatternFails, Undecided as PatternUndecided}
use Rattle.bdl_pairs.specs.declared.cell.CellAnswer.{CellAnswer}
use Rattle.bdl_pairs.specs.declared.cell.CellAnswer.TheVariants.{Works, Fails, Undecided, Budget, Long}
use Rattle.bdl_pairs.specs.Remaining.{IsLeft, Remaining}
use Rattle.bdl_pairs.specs.Verdict.{IsVerdict}
use Rattle.operational_domain.specs.declared.patterns.PatternSolved.TheVariants.{Budget as SolvedBudget, ListTooLong as SolvedTooLong}
use Rattle.operational_domain.specs.Placed.{Placed}
use Rattle.parameter_regions.specs.declared.rectangles.Rectangle.{Rectangle}
use Rattle.parameter_regions.specs.Regions.{IsRegionProblemOf}
use Rattle.region_domain.specs.Patterns.{HasTileVerdict, IsTileProblem, IsTileSolved}
use Rattle.region_domain.specs.Tiles.{IsFirstTileReason, IsTileAnswer, IsTileReason, WorkOnTile}

-- each part of an answer is one
pub record PartsAreOne : Type 0 where
  pub left : (whole : Arrangement) (gate : Logic) (k : ℕ) (a b : Remaining) → IsLayout whole → IsLeft whole gate k a → IsLeft whole gate k b → a ≡ b
  pub problem : (layout : Arrangement) (r : Rectangle) (p q : Problem) → IsRegionProblemOf layout r p → IsRegionProblemOf layout r q → p ≡ q
  pub list : (p : Problem) (limit : ℕ) (es fs : List Entry) → IsListedWithin p limit es → IsListedWithin p limit fs → es ≡ fs
  pub length : (p : Problem) (limit : ℕ) (es : List Entry) → IsListedWithin p limit es → IsTooLongWithin p limit → ⊥
  pub budget : (p : Problem) (limit : ℕ) → IsWithinLimit p limit → IsOverLimit p limit → ⊥
  pub verdict : (outputs : List PairOf) (wanted : Bool) (es : List Entry) (v w : PatternVerdict) → IsVerdict outputs wanted es v → IsVerdict outputs wanted es w → v ≡ w

module _ (one : PartsAreOne) (placed : Placed) (valid : IsLayout placed.whole) (r : Rectangle) where
  -- what a pattern leaves, and its problem
  same_problem : (k : ℕ) (l m : Remaining) (p q : Problem) → IsTileProblem placed r k l p → IsTileProblem placed r k m q → (l ≡ m) × (p ≡ q)
  same_problem k l m p q a b =
      let left = one.left placed.whole placed.gate k l m valid a.left_by b.left_by in
      (left, one.problem m.layout r p q (subst (λ (x : Remaining). IsRegionProblemOf x.layout r p) left a.problem_of) b.problem_of)

  -- a pattern has one verdict
  same_verdict : (k : ℕ) (v w : PatternVerdict) → HasTileVerdict placed r k v → HasTileVerdict placed r k w → v ≡ w
  same_verdict k v w g h =
      let a = g.solved in
      let b = h.solved in
      let x = g.answer in
      let y = h.answer in
      let same = same_problem k a.left b.left a.problem b.problem a.of_pattern b.of_pattern in
      let lists : x.list ≡ y.list = one.list b.problem placed.limit x.list y.list (subst (λ p. IsListedWithin p placed.limit x.list) same.1 a.answers.listed) b.answers.listed in
      let bits : x.wanted ≡ y.wanted = a.answers.bit ∙ sym b.answers.bit in
      let at_left : IsVerdict b.left.outputs x.wanted x.list x.verdict = subst (λ (l : Remaining). IsVerdict l.outputs x.wanted x.list x.verdict) same.0 a.answers.verdict in
      let at_bit : IsVerdict b.left.outputs y.wanted x.list x.verdict = subst (λ w. IsVerdict b.left.outputs w x.list x.verdict) bits at_left in
      let judged : IsVerdict b.left.outputs y.wanted y.list x.verdict = subst (λ es. IsVerdict b.left.outputs y.wanted es x.verdict) lists at_bit in
      sym g.says ∙ one.verdict b.left.outputs y.wanted y.list x.verdict y.verdict judged b.answers.verdict ∙ h.says

  -- and a list, or one reason for which it has none
  not_over : (k : ℕ) (v : PatternVerdict) → HasTileVerdict placed r k v → IsTileSolved placed r k SolvedBudget → ⊥
  not_over k v has b =
      let a = has.solved in
      let same = same_problem k a.left b.left a.problem b.problem a.of_pattern b.of_pattern in
      one.budget b.problem placed.limit (subst (λ p. IsWithinLimit p placed.limit) same.1 a.answers.listed.budget) b.answers

  not_long : (k : ℕ) (v : PatternVerdict) → HasTileVerdict placed r k v → IsTileSolved placed r k SolvedTooLong → ⊥
  not_long k v has b =
      let a = has.solved in
      let same = same_problem k a.left b.left a.problem b.problem a.of_pattern b.of_pattern in
      one.length b.problem placed.limit has.answer.list (subst (λ p. IsListedWithin p placed.limit has.answer.list) same.1 a.answers.listed) b.answers

  over_or_long : (k : ℕ) → IsTileSolved placed r k SolvedBudget → IsTileSolved placed r k SolvedTooLong → ⊥
  over_or_long k a b =
      let same = same_problem k a.left b.left a.problem b.problem a.of_pattern b.of_pattern in
      one.budget b.problem placed.limit b.answers.budget (subst (λ p. IsOverLimit p placed.limit) same.1 a.answers)

  -- there is one reason for which it does not work
  same_reason : (a b : CellAnswer) (k : ℕ) → IsTileReason placed r a k → IsTileReason placed r b k → a ≡ b
  same_reason Works b k x y = absurd x
  same_reason a Works k x y = absurd y
  same_reason (Fails i) (Fails j) k x y = ap Fails (x.0 ∙ sym y.0)
  same_reason (Undecided i) (Undecided j) k x y = ap Undecided (x.0 ∙ sym y.0)
  same_reason (Budget i) (Budget j) k x y = ap Budget (x.0 ∙ sym y.0)
  same_reason (Long i) (Long j) k x y = ap Long (x.0 ∙ sym y.0)
  same_reason (Fails i) (Undecided j) k x y = absurd (cc (same_verdict k PatternFails PatternUndecided x.1 y.1))
  same_reason (Undecided i) (Fails j) k x y = absurd (cc (same_verdict k PatternUndecided PatternFails x.1 y.1))
  same_reason (Fails i) (Budget j) k x y = absurd (not_over k PatternFails x.1 y.1)
  same_reason (Fails i) (Long j) k x y = absurd (not_long k PatternFails x.1 y.1)
  same_reason (Undecided i) (Budget j) k x y = absurd (not_over k PatternUndecided x.1 y.1)
  same_reason (Undecided i) (Long j) k x y = absurd (not_long k PatternUndecided x.1 y.1)
  same_reason (Budget i) (Fails j) k x y = absurd (not_over k PatternFails y.1 x.1)
  same_reason (Long i) (Fails j) k x y = absurd (not_long k PatternFails y.1 x.1)
  same_reason (Budget i) (Undecided j) k x y = absurd (not_over k PatternUndecided y.1 x.1)
  same_reason (Long i) (Undecided j) k x y = absurd (not_long k PatternUndecided y.1 x.1)
  same_reason (Budget i) (Long j) k x y = absurd (over_or_long k x.1 y.1)
  same_reason (Long i) (Budget j) k x y = absurd (over_or_long k y.1 x.1)

  -- no pattern works that has a reason
  works_or_not : (a : CellAnswer) (k : ℕ) → IsTileReason placed r a k → HasTileVerdict placed r k PatternWorks → ⊥
  works_or_not Works k x works = x
  works_or_not (Fails i) k x works = absurd (cc (same_verdict k PatternFails PatternWorks x.1 works))
  works_or_not (Undecided i) k x works = absurd (cc (same_verdict k PatternUndecided PatternWorks x.1 works))
  works_or_not (Budget i) k x works = not_over k PatternWorks works x.1
  works_or_not (Long i) k x works = not_long k PatternWorks works x.1

  same_first : (a b : CellAnswer) → IsFirstTileReason placed r a → IsFirstTileReason placed r b → a ≡ b
  same_first a b x y = by (cases_lt x.pattern y.pattern) (cases_lt y.pattern x.pattern)
    where
      by : (x.pattern < y.pattern) ⊎ (y.pattern ≤ x.pattern) → (y.pattern < x.pattern) ⊎ (x.pattern ≤ y.pattern) → a ≡ b
      by (inl less) other = absurd (works_or_not a x.pattern x.reason (y.first x.pattern less))
      by (inr most) (inl more) = absurd (works_or_not b y.pattern y.reason (x.first y.pattern more))
      by (inr most) (inr least) =
          let same : x.pattern ≡ y.pattern = omega (arith, most, least) in same_reason a b y.pattern (subst (IsTileReason placed r a) same x.reason) y.reason

  -- an answer says that the gate works, or gives the first reason
  split : (a : CellAnswer) → IsTileAnswer placed r a → ((a ≡ Works) × WorkOnTile placed r (pattern_count placed.gate)) ⊎ IsFirstTileReason placed r a
  split Works is = inl (refl, is)
  split (Fails i) is = inr is
  split (Undecided i) is = inr is
  split (Budget i) is = inr is
  split (Long i) is = inr is

  pub same_tile_answer : (a b : CellAnswer) → IsTileAnswer placed r a → IsTileAnswer placed r b → a ≡ b
  same_tile_answer a b x y = by (split a x) (split b y)
    where
      by : ((a ≡ Works) × WorkOnTile placed r (pattern_count placed.gate)) ⊎ IsFirstTileReason placed r a → ((b ≡ Works) × WorkOnTile placed r (pattern_count placed.gate)) ⊎ IsFirstTileReason placed r b → a ≡ b
      by (inl h) (inl g) = h.0 ∙ sym g.0
      by (inl h) (inr g) = absurd (works_or_not b g.pattern g.reason (h.1 g.pattern g.within))
      by (inr h) (inl g) = absurd (works_or_not a h.pattern h.reason (g.1 h.pattern h.within))
      by (inr h) (inr g) = same_first a b h g
