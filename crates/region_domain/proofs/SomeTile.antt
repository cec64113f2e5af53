-- each gate on a layout has an answer on each rectangle
use Rattle.std.proofs.Common.{◌≡◌, refl, subst, ℕ, zero, suc, ◌+◌, ◌<◌, ◌≤◌, ◌⊎◌, inl, inr, List, length, arith}
use Rattle.std.specs.Prelude.{Bool}
use Rattle.std.proofs.lemmas.Bool.{cases_lt}
use Rattle.std.proofs.lemmas.List.{length-map}
use Rattle.sidb_units.specs.declared.TheConstants.{MAX_ENTRIES}
use Rattle.charge_model.specs.Problem.{Problem, IsProblem}
use Rattle.charge_model.specs.GroundList.{Entry, IsMarkedGroundList, lists_of}
use Rattle.sidb_layout.specs.Layout.{Arrangement, IsLayout}
use Rattle.ground_state.specs.Answer.{IsOverLimit, IsWithinLimit}
use Rattle.gate_model.specs.declared.pairs.PairOf.{PairOf}
use Rattle.gate_model.specs.Logic.{IsLogic, Logic, pattern_count}
use Rattle.bdl_pairs.specs.declared.verdicts.PatternVerdict.{PatternVerdict}
use Rattle.bdl_pairs.specs.declared.verdicts.PatternVerdict.TheVariants.{Works as PatternWorks, Fails as PatternFails, Undecided as PatternUndecided}
use Rattle.bdl_pairs.specs.declared.cell.CellAnswer.{CellAnswer}
use Rattle.bdl_pairs.specs.declared.cell.CellAnswer.TheVariants.{Works, Fails, Undecided, Budget, Long}
use Rattle.bdl_pairs.specs.Remaining.{IsLeft, IsOn, Remaining}
use Rattle.bdl_pairs.specs.Verdict.{IsVerdict}
use Rattle.operational_domain.specs.declared.patterns.PatternSolved.TheVariants.{Budget as SolvedBudget, ListTooLong as SolvedTooLong}
use Rattle.operational_domain.specs.Patterns.{wanted_at}
use Rattle.operational_domain.specs.Placed.{Placed}
use Rattle.parameter_regions.specs.declared.rectangles.Rectangle.{Rectangle}
use Rattle.parameter_regions.specs.Regions.{IsRegionProblemOf}
use Rattle.region_domain.specs.Patterns.{HasTileVerdict, IsTileProblem, IsTileSolved}
use Rattle.region_domain.specs.Tiles.{IsTileAnswer, WorkOnTile}
use Rattle.region_domain.proofs.FirstReason.{none_works_yet, one_more, reason_answers}

-- what there is of each part
pub record PartsAreThere : Type 0 where
  pub leaves : (whole : Arrangement) (gate : Logic) (k : ℕ) → IsLayout whole → IsLogic gate → IsOn gate whole.sites → (left : Remaining) × IsLeft whole gate k left × IsLayout left.layout
  pub problem : (layout : Arrangement) (r : Rectangle) → IsLayout layout → (q : Problem) × IsRegionProblemOf layout r q × IsProblem q
  pub decided : (p : Problem) (limit : ℕ) → IsProblem p → IsWithinLimit p limit ⊎ IsOverLimit p limit
  pub list : (p : Problem) → IsProblem p → (es : List Entry) × IsMarkedGroundList p es
  pub verdict : (outputs : List PairOf) (wanted : Bool) (es : List Entry) → (v : PatternVerdict) × IsVerdict outputs wanted es v

-- the verdict of a pattern, or why it has none
abbrev HasOutcome : Placed → Rectangle → ℕ → Type 0
HasOutcome placed r k = ((v : PatternVerdict) × HasTileVerdict placed r k v) ⊎ (IsTileSolved placed r k SolvedBudget ⊎ IsTileSolved placed r k SolvedTooLong)

module _ (parts : PartsAreThere) (placed : Placed) (r : Rectangle) where
  -- by the problem of a pattern
  with_problem : (k : ℕ) (left : Remaining) (q : Problem) → IsTileProblem placed r k left q → IsProblem q → HasOutcome placed r k
  with_problem k left q of is_problem = by (parts.decided q placed.limit is_problem)
    where
      listed : IsWithinLimit q placed.limit → ((es : List Entry) × IsMarkedGroundList q es) → HasOutcome placed r k
      listed budget (es, marked) = count (cases_lt MAX_ENTRIES (length es))
        where
          count : (MAX_ENTRIES < length es) ⊎ (length es ≤ MAX_ENTRIES) → HasOutcome placed r k
          count (inl many) =
              let long : MAX_ENTRIES < length (lists_of es) = omega (arith, many, length-map es (λ (e : Entry). e.charges)) in
              inr (inr (record { left = left; problem = q; of_pattern = of; answers = record { budget = budget; many = (lists_of es, marked.ground, long) } }))
          count (inr few) =
              let judged = parts.verdict left.outputs (wanted_at placed.gate k) es in
              inl (
                judged.0,
                record {
                  answer = record { wanted = wanted_at placed.gate k; verdict = judged.0; list = es };
                  solved = record {
                    left = left;
                    problem = q;
                    of_pattern = of;
                    answers = record { bit = refl; listed = record { budget = budget; list = marked; few = few }; verdict = judged.1 };
                  };
                  says = refl;
                },
              )

      by : IsWithinLimit q placed.limit ⊎ IsOverLimit q placed.limit → HasOutcome placed r k
      by (inl within) = listed within (parts.list q is_problem)
      by (inr over) = inr (inl (record { left = left; problem = q; of_pattern = of; answers = over }))

  module _ (valid : IsLayout placed.whole) (logic : IsLogic placed.gate) (on : IsOn placed.gate placed.whole.sites) where
    some_outcome : (k : ℕ) → HasOutcome placed r k
    some_outcome k =
        let left = parts.leaves placed.whole placed.gate k valid logic on in
        let q = parts.problem left.0.layout r left.2 in
        with_problem k left.0 q.0 (record { left_by = left.1; problem_of = q.1 }) q.2

    -- the patterns below n work, or the gate has another answer
    some_reason : (n : ℕ) → n ≤ pattern_count placed.gate → WorkOnTile placed r n ⊎ ((a : CellAnswer) × IsTileAnswer placed r a)
    some_reason zero within = inl (none_works_yet placed r)
    some_reason (suc n) within = by (some_reason n (omega (arith, within)))
      where
        judged : WorkOnTile placed r n → (v : PatternVerdict) → HasTileVerdict placed r n v → WorkOnTile placed r (suc n) ⊎ ((a : CellAnswer) × IsTileAnswer placed r a)
        judged below PatternWorks has = let next : n + 1 ≡ suc n = omega arith in inl (subst (WorkOnTile placed r) next (one_more placed r n below has))
        judged below PatternFails has = inr (Fails n, reason_answers placed r (Fails n) n (omega (arith, within)) (refl, has) below)
        judged below PatternUndecided has = inr (Undecided n, reason_answers placed r (Undecided n) n (omega (arith, within)) (refl, has) below)

        last : WorkOnTile placed r n → HasOutcome placed r n → WorkOnTile placed r (suc n) ⊎ ((a : CellAnswer) × IsTileAnswer placed r a)
        last below (inl (v, has)) = judged below v has
        last below (inr (inl over)) = inr (Budget n, reason_answers placed r (Budget n) n (omega (arith, within)) (refl, over) below)
        last below (inr (inr long)) = inr (Long n, reason_answers placed r (Long n) n (omega (arith, within)) (refl, long) below)

        by : WorkOnTile placed r n ⊎ ((a : CellAnswer) × IsTileAnswer placed r a) → WorkOnTile placed r (suc n) ⊎ ((a : CellAnswer) × IsTileAnswer placed r a)
        by (inl below) = last below (some_outcome n)
        by (inr other) = inr other

    pub some_tile_answer : (a : CellAnswer) × IsTileAnswer placed r a
    some_tile_answer = by (some_reason (pattern_count placed.gate) (omega arith))
      where
        by : WorkOnTile placed r (pattern_count placed.gate) ⊎ ((a : CellAnswer) × IsTileAnswer placed r a) → (a : CellAnswer) × IsTileAnswer placed r a
        by (inl all) = (Works, all)
        by (inr other) = other
