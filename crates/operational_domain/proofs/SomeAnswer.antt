-- each pattern has an answer, each gate a table or a reason why it has none, and each grid its cells
use Rattle.std.proofs.Common.{◌≡◌, ◌∙◌, sym, ap, refl, subst, ℕ, zero, suc, ◌+◌, ◌*◌, ◌/◌, ◌%◌, ◌<◌, ◌≤◌, ◌⊎◌, inl, inr, List, [], ◌∷◌, ◌++◌, length, arith}
use Rattle.std.specs.Prelude.{Bool}
use Rattle.std.proofs.lemmas.Bool.{cases_lt}
use Rattle.std.proofs.lemmas.List.{length-map}
use Rattle.std.proofs.lemmas.Nat.{mod_below}
use Rattle.std.proofs.Math.Nat.{div-lt_iff_lt-mul}
use Rattle.sidb_units.specs.declared.TheConstants.{MAX_ENTRIES}
use Rattle.charge_model.specs.Problem.{Problem, IsProblem}
use Rattle.charge_model.specs.GroundList.{Entry, IsMarkedGroundList, lists_of}
use Rattle.sidb_layout.specs.Layout.{Arrangement, IsLayout}
use Rattle.model_params.specs.Params.{AreParamsInRange}
use Rattle.model_params.specs.declared.params.Params.{Params}
use Rattle.screened_coulomb.specs.Layouts.{HoldsDistances, IsProblemOf}
use Rattle.ground_state.specs.Answer.{IsOverLimit, IsWithinLimit}
use Rattle.gate_model.specs.declared.pairs.PairOf.{PairOf}
use Rattle.gate_model.specs.Logic.{IsLogic, pattern_count}
use Rattle.gate_model.specs.Grids.{AreAxes, Axes, point_at}
use Rattle.bdl_pairs.specs.declared.truth.PatternAnswer.{PatternAnswer}
use Rattle.bdl_pairs.specs.declared.verdicts.PatternVerdict.{PatternVerdict}
use Rattle.bdl_pairs.specs.declared.verdicts.PatternVerdict.TheVariants.{Works as PatternWorks, Fails as PatternFails, Undecided as PatternUndecided}
use Rattle.bdl_pairs.specs.declared.cell.Cell.{Cell}
use Rattle.bdl_pairs.specs.declared.cell.CellAnswer.{CellAnswer}
use Rattle.bdl_pairs.specs.declared.cell.CellAnswer.TheVariants.{Works, Fails, Undecided, Budget, Long}
use Rattle.bdl_pairs.specs.Remaining.{IsLeft, IsOn, Remaining}
use Rattle.bdl_pairs.specs.Verdict.{IsVerdict}
use Rattle.operational_domain.specs.Patterns.{Setting, IsPatternAnswer, IsPatternLong, IsPatternOver, wanted_at}
use Rattle.operational_domain.specs.Placed.{Placed, setting_at}
use Rattle.operational_domain.specs.Truth.{AreAnswers, IsFirstLong, IsFirstOver}
use Rattle.operational_domain.specs.Points.{IsPoint}
use Rattle.operational_domain.specs.Cells.{HasVerdict, IsCellAnswer, WorkBelow}
use Rattle.operational_domain.specs.Domain.{AreCells, IsCellAt}
use Rattle.operational_domain.proofs.FirstReason.{answers_more, first_long, first_over, none_works_yet, none_yet, one_more, reason_answers}
use Rattle.operational_domain.proofs.Leaving.{OthersStay, left_layout, some_left}
use Rattle.operational_domain.proofs.ListsInOrder.{some_list}

-- what there is of each part
pub record PartsAreThere : Type 0 where
  pub stay : OthersStay
  pub problem : (layout : Arrangement) (p : Params) → IsLayout layout → (q : Problem) × IsProblemOf layout p q × HoldsDistances layout p q × IsProblem q
  pub decided : (p : Problem) (limit : ℕ) → IsProblem p → IsWithinLimit p limit ⊎ IsOverLimit p limit
  pub list : (p : Problem) → IsProblem p → (es : List Entry) × IsMarkedGroundList p es
  pub verdict : (outputs : List PairOf) (wanted : Bool) (es : List Entry) → (v : PatternVerdict) × IsVerdict outputs wanted es v

-- the answer of a pattern, or why it has none
abbrev pub HasAnswer : Setting → ℕ → Type 0
HasAnswer s k = ((a : PatternAnswer) × IsPatternAnswer s k a) ⊎ (IsPatternOver s k ⊎ IsPatternLong s k)

-- the table of the patterns below n, or why there is none
abbrev pub HasTable : Setting → ℕ → Type 0
HasTable s n = ((t : List PatternAnswer) × AreAnswers s n t) ⊎ (IsFirstOver s ⊎ IsFirstLong s)

module _ (parts : PartsAreThere) (s : Setting) (valid : IsLayout s.whole) (logic : IsLogic s.gate) (on : IsOn s.gate s.whole.sites) where
  pub some_pattern : (k : ℕ) → HasAnswer s k
  some_pattern k = leaving (some_left parts.stay s.whole s.gate k logic on)
    where
      leaving : ((left : Remaining) × IsLeft s.whole s.gate k left) → HasAnswer s k
      leaving (left, is_left) = with (parts.problem left.layout s.params (left_layout s.whole s.gate k left valid is_left))
        where
          with : ((q : Problem) × IsProblemOf left.layout s.params q × HoldsDistances left.layout s.params q × IsProblem q) → HasAnswer s k
          with (q, of_layout, holds, is_problem) = by (parts.decided q s.limit is_problem)
            where
              listed : IsWithinLimit q s.limit → ((es : List Entry) × IsMarkedGroundList q es) → HasAnswer s k
              listed budget (es, marked) = count (cases_lt MAX_ENTRIES (length es))
                where
                  count : (MAX_ENTRIES < length es) ⊎ (length es ≤ MAX_ENTRIES) → HasAnswer s k
                  count (inl many) =
                      let long : MAX_ENTRIES < length (lists_of es) = omega (arith, many, length-map es (λ (e : Entry). e.charges)) in
                      inr (inr (record {
                        left = left;
                        problem = q;
                        of_pattern = record { left_by = is_left; problem_of = of_layout };
                        long = record { budget = budget; many = (lists_of es, marked.ground, long) };
                      }))
                  count (inr few) =
                      let judged = parts.verdict left.outputs (wanted_at s.gate k) es in
                      inl (
                        record { wanted = wanted_at s.gate k; verdict = judged.0; list = es },
                        record {
                          left = left;
                          problem = q;
                          of_pattern = record { left_by = is_left; problem_of = of_layout };
                          wanted = refl;
                          listed = record { budget = budget; list = marked; few = few };
                          verdict = judged.1;
                        },
                      )

              by : IsWithinLimit q s.limit ⊎ IsOverLimit q s.limit → HasAnswer s k
              by (inl within) = listed within (parts.list q is_problem)
              by (inr over) = inr (inl (record { left = left; problem = q; of_pattern = record { left_by = is_left; problem_of = of_layout }; over = over }))

  pub some_table : (n : ℕ) → n ≤ pattern_count s.gate → HasTable s n
  some_table zero within = inl ([], none_yet s)
  some_table (suc n) within = by (some_table n (omega (arith, within)))
    where
      last : (t : List PatternAnswer) → AreAnswers s n t → HasAnswer s n → HasTable s (suc n)
      last t are (inl (a, is)) =
          let next : n + 1 ≡ suc n = omega arith in
          inl (t ++ a ∷ [], subst (λ m. AreAnswers s m (t ++ a ∷ [])) next (answers_more s n t a are is))
      last t are (inr (inl over)) = inr (inl (first_over s n t (omega (arith, within)) are over))
      last t are (inr (inr long)) = inr (inr (first_long s n t (omega (arith, within)) are long))

      by : HasTable s n → HasTable s (suc n)
      by (inl (t, are)) = last t are (some_pattern n)
      by (inr none) = inr none

  -- the patterns below n work, or the gate has another answer
  some_reason : (n : ℕ) → n ≤ pattern_count s.gate → WorkBelow s n ⊎ ((a : CellAnswer) × IsCellAnswer s a)
  some_reason zero within = inl (none_works_yet s)
  some_reason (suc n) within = by (some_reason n (omega (arith, within)))
    where
      judged : WorkBelow s n → (v : PatternVerdict) → HasVerdict s n v → WorkBelow s (suc n) ⊎ ((a : CellAnswer) × IsCellAnswer s a)
      judged below PatternWorks has = let next : n + 1 ≡ suc n = omega arith in inl (subst (WorkBelow s) next (one_more s n below has))
      judged below PatternFails has = inr (Fails n, reason_answers s (Fails n) n (omega (arith, within)) (refl, has) below)
      judged below PatternUndecided has = inr (Undecided n, reason_answers s (Undecided n) n (omega (arith, within)) (refl, has) below)

      last : WorkBelow s n → HasAnswer s n → WorkBelow s (suc n) ⊎ ((a : CellAnswer) × IsCellAnswer s a)
      last below (inl (a, is)) = judged below a.verdict (record { answer = a; of_pattern = is; says = refl })
      last below (inr (inl over)) = inr (Budget n, reason_answers s (Budget n) n (omega (arith, within)) (refl, over) below)
      last below (inr (inr long)) = inr (Long n, reason_answers s (Long n) n (omega (arith, within)) (refl, long) below)

      by : WorkBelow s n ⊎ ((a : CellAnswer) × IsCellAnswer s a) → WorkBelow s (suc n) ⊎ ((a : CellAnswer) × IsCellAnswer s a)
      by (inl below) = last below (some_pattern n)
      by (inr other) = inr other

  pub some_cell_answer : (a : CellAnswer) × IsCellAnswer s a
  some_cell_answer = by (some_reason (pattern_count s.gate) (omega arith))
    where
      by : WorkBelow s (pattern_count s.gate) ⊎ ((a : CellAnswer) × IsCellAnswer s a) → (a : CellAnswer) × IsCellAnswer s a
      by (inl all) = (Works, all)
      by (inr other) = other

-- each point of a grid has its parameters
some_point : (p : Params) (a : Axes) (k : ℕ) → AreAxes a → k < a.eps.count * a.lam.count → (point : Params) × IsPoint p a k point
some_point p a k are lt =
    let some = are.lam.some in
    let outer : k / a.lam.count < a.eps.count = (div-lt_iff_lt-mul some).1 lt in
    let inner : k % a.lam.count < a.lam.count = mod_below k a.lam.count some in
    let within = p.in_range in
    let point : Params = record {
      coulomb = p.coulomb;
      eps = point_at a.eps (k / a.lam.count);
      lam = point_at a.lam (k % a.lam.count);
      depth = p.depth;
      gap = p.gap;
      base = p.base;
      in_range = record {
        coulomb_within = within.coulomb_within;
        eps_within = are.eps.inside (k / a.lam.count) outer;
        lam_within = are.lam.inside (k % a.lam.count) inner;
        depth_within = within.depth_within;
        gap_within = within.gap_within;
        base_from = within.base_from;
        base_to = within.base_to;
      };
    } in
    (point, record { eps = refl; lam = refl; coulomb = refl; depth = refl; gap = refl; base = refl })

pub some_cells : PartsAreThere → (placed : Placed) (p : Params) (a : Axes) → IsLayout placed.whole → IsLogic placed.gate → IsOn placed.gate placed.whole.sites → AreAxes a
    → (cells : List Cell) × AreCells placed p a cells
some_cells parts placed p a valid logic on are =
    let found = some_list (IsCellAt placed p a) (a.eps.count * a.lam.count) each in
    (found.0, record { count = found.1; each = found.2 })
  where
    each : (k : ℕ) → k < a.eps.count * a.lam.count → (cell : Cell) × IsCellAt placed p a k cell
    each k lt =
        let point = some_point p a k are lt in
        let answer = some_cell_answer parts (setting_at placed point.0) valid logic on in (
          record { eps = point.0.eps; lam = point.0.lam; answer = answer.0 },
          record { point = point.0; of_grid = point.1; answers = record { eps = refl; lam = refl; answer = answer.1 } },
        )
