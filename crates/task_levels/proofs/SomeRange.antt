-- each problem has an answer at the levels of a range
use Rattle.std.proofs.Common.{◌≡◌, ◌≢◌, refl, ℕ, ◌<◌, ◌≤◌, ℤ, ◌≤ℤ◌, List, length, ◌⊎◌, inl, inr, Option, Some, None, arith}
use Rattle.std.specs.Prelude.{neg_ℤ}
use Rattle.std.proofs.lemmas.Int.{ints}
use Rattle.std.proofs.lemmas.Bool.{cases_lt}
use Rattle.sidb_units.specs.declared.TheConstants.{MAX_ENTRIES}
use Rattle.charge_model.specs.declared.charge.Charge.{Charge}
use Rattle.charge_model.specs.Problem.{Problem, IsProblem}
use Rattle.command_words.specs.declared.settings.DepthRange.{DepthRange}
use Rattle.command_words.specs.declared.settings.Settings.{Settings}
use Rattle.fault_lines.specs.FaultLines.{budget_line, list_too_long_line}
use Rattle.level_range_laws.specs.declared.interval.Interval.{Interval}
use Rattle.level_range_laws.specs.Candidates.{AreAllCandidates}
use Rattle.level_range_laws.specs.Parts.{Printed, ArePrinted}
use Rattle.level_range_laws.specs.RangePrefixes.{range_prefix_count}
use Rattle.range_report.specs.RangeText.{range_text}
use Rattle.run_answer.specs.declared.status.Status.{Status}
use Rattle.run_answer.specs.declared.status.Status.TheVariants.{Answered, Budget, ListTooLong}
use Rattle.task_levels.specs.RangeAnswer.{IsAnswerWithin, IsRangeAnswer, levels_between}

-- what each interval has
pub record AreRangeLaws : Type 0 where
  pub candidates : (p : Problem) (levels : Interval) → IsProblem p → (all : List (List Charge)) × AreAllCandidates p levels all
  pub parts : (p : Problem) (levels : Interval) → IsProblem p → levels.first ≤ℤ levels.last → (parts : List Printed) × ArePrinted p levels parts

-- some status and text are the answer
abbrev HasAnswerWithin : Problem → Interval → ℕ → Type 0
HasAnswerWithin p levels limit = (status : Status) × (text : List ℕ) × IsAnswerWithin p levels limit status text

module _ (laws : AreRangeLaws) (p : Problem) (levels : Interval) (limit : ℕ) (valid : IsProblem p) (some : levels.first ≤ℤ levels.last) where
  within_limit : range_prefix_count p levels ≤ limit → HasAnswerWithin p levels limit
  within_limit within = with (laws.candidates p levels valid) (laws.parts p levels valid some)
    where
      with : ((all : List (List Charge)) × AreAllCandidates p levels all) → ((parts : List Printed) × ArePrinted p levels parts) → HasAnswerWithin p levels limit
      with (all, whole) (parts, printed) = by (cases_lt MAX_ENTRIES (length all))
        where
          by : (MAX_ENTRIES < length all) ⊎ (length all ≤ MAX_ENTRIES) → HasAnswerWithin p levels limit
          by (inl many) = (ListTooLong, list_too_long_line, inr (inr (within, record { all = all; whole = whole; many = many }, (refl, refl))))
          by (inr few) = (
            Answered,
            range_text p.sites parts,
            inl (
              refl,
              record {
                parts = parts;
                list = record { within = within; few = record { all = all; whole = whole; few = few }; printed = printed };
                prints = refl;
              },
            ),
          )

  pub some_within : HasAnswerWithin p levels limit
  some_within = by (cases_lt limit (range_prefix_count p levels))
    where
      by : (limit < range_prefix_count p levels) ⊎ (range_prefix_count p levels ≤ limit) → HasAnswerWithin p levels limit
      by (inl over) = (Budget, budget_line limit, inr (inl (over, (refl, refl))))
      by (inr within) = within_limit within

-- the range that is there
range_of : (o : Option DepthRange) → o ≢ None → (r : DepthRange) × (o ≡ Some r)
range_of None some = absurd (some refl)
range_of (Some r) some = (r, refl)

in_order : (from to : ℤ) → from ≤ℤ to → neg_ℤ to ≤ℤ neg_ℤ from
in_order from to h = omega (arith, ints, h)

pub some_range_answer : AreRangeLaws → (s : Settings) (p : Problem) → IsProblem p → s.levels.range ≢ None → (status : Status) × (text : List ℕ) × IsRangeAnswer s p status text
some_range_answer laws s p valid asked = by (range_of s.levels.range asked)
  where
    by : (r : DepthRange) × (s.levels.range ≡ Some r) → (status : Status) × (text : List ℕ) × IsRangeAnswer s p status text
    by (r, is) =
        let found = some_within laws p (levels_between r) s.search.limit valid (in_order r.from r.to r.in_range.in_order) in
        (found.0, found.1, record { range = r; asked = is; answer = found.2 })
