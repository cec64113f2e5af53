-- what is due for a range of depths
use Rattle.std.proofs.Common.{◌≡◌, ◌∙◌, ◌<◌, ◌^◌, ℤ, pos, ◌-ℤ◌, ◌≤ℤ◌, ap, arith, unsigned_abs, Some, w64, to_z, of_z}
use Rattle.std.specs.Prelude.{neg_ℤ, Result, Ok, Err, IfOk}
use Rattle.std.proofs.lemmas.Int.{ints, to_z-of_z, fits_signed_from_abs}
use Rattle.charge_model.specs.Problem.{Problem}
use Rattle.sidb_units.specs.declared.memory.Memory.{Memory}
use Rattle.model_params.specs.Quantities.{IsInRangeOf, level_depth}
use Rattle.command_words.specs.declared.settings.DepthRange.{DepthRange}
use Rattle.command_words.specs.declared.settings.Settings.{Settings}
use Rattle.level_range.specs.Answer.{levels_of}
use Rattle.run_answer.specs.declared.due.Due.{Due}
use Rattle.run_answer.specs.Due.{DueIs}
use Rattle.task_levels.specs.RangeAnswer.{IsAnswerWithin, IsRangeAnswer, levels_between}

small : (d : ℤ) → pos 0 ≤ℤ d → d ≤ℤ pos 2000000000000 → unsigned_abs d < 2 ^ 63
small d from to = omega (arith, ints, from, to)

small_below : (d : ℤ) → pos 0 ≤ℤ d → d ≤ℤ pos 2000000000000 → unsigned_abs (pos 0 -ℤ d) < 2 ^ 63
small_below d from to = omega (arith, ints, from, to)

below_zero : (d : ℤ) → pos 0 -ℤ d ≡ neg_ℤ d
below_zero d = omega (arith, ints)

-- a depth, as 64 bits keep it
kept : (d : ℤ) → IsInRangeOf level_depth d → to_z w64 (of_z w64 d) ≡ d
kept d h = to_z-of_z w64 d (fits_signed_from_abs w64 d (small d h.from h.to))

-- the level below 0 of a depth, as 64 bits keep both
abbrev kept_level : ℤ → ℤ
kept_level d = to_z w64 (of_z w64 (pos 0 -ℤ to_z w64 (of_z w64 d)))

level_of : (d : ℤ) → IsInRangeOf level_depth d → kept_level d ≡ neg_ℤ d
level_of d h = ap (λ z. to_z w64 (of_z w64 (pos 0 -ℤ z))) (kept d h) ∙ to_z-of_z w64 (pos 0 -ℤ d) (fits_signed_from_abs w64 (pos 0 -ℤ d) (small_below d h.from h.to)) ∙ below_zero d

-- so the levels that are gone through are those of the range
pub same_levels : (r : DepthRange) → levels_of (kept_level r.to) (kept_level r.from) ≡ levels_between r
same_levels r =
    ap (λ z. levels_of z (kept_level r.from)) (level_of r.to r.in_range.to_within)
    ∙ ap (λ z. levels_of (neg_ℤ r.to) z) (level_of r.from r.in_range.from_within)

-- what is due between the levels of the range that is asked for is due for the settings
pub due_of_range : (s : Settings) (p : Problem) (r : DepthRange) → s.levels.range ≡ Some r → (result : Result Due Memory)
    → IfOk result (DueIs (IsAnswerWithin p (levels_between r) s.search.limit)) → IfOk result (DueIs (IsRangeAnswer s p))
due_of_range s p r asked (Ok due) h = record { ends = h.ends; answers = λ text is. record { range = r; asked = asked; answer = h.answers text is } }
due_of_range s p r asked (Err e) h = h
