-- what the overall verdict of a table says of its patterns
use Rattle.std.proofs.Common.{◌≡◌, ◌∙◌, sym, ap, refl, ℕ, suc, ◌+◌, ◌<◌, List, [], ◌∷◌, length, slice_index_or, arith}
use Rattle.std.specs.Prelude.{All}
use Rattle.bdl_pairs.specs.declared.verdicts.PatternVerdict.{PatternVerdict}
use Rattle.bdl_pairs.specs.declared.verdicts.PatternVerdict.TheVariants.{Works as PatternWorks, Fails as PatternFails, Undecided as PatternUndecided}
use Rattle.bdl_pairs.specs.declared.truth.PatternAnswer.{PatternAnswer}
use Rattle.bdl_pairs.specs.declared.cell.CellAnswer.{CellAnswer}
use Rattle.bdl_pairs.specs.declared.cell.CellAnswer.TheVariants.{Works, Fails, Undecided, Budget, Long}
use Rattle.gate_report.specs.Answers.{overall, verdict_or}

abbrev pub WorkingTablesWork : Type 0
WorkingTablesWork = (t : List PatternAnswer) → overall 0 t ≡ Works → All (λ a. a.verdict ≡ PatternWorks) t

-- what holds of the verdict of each pattern holds of this one
pub verdict_of : (t : List PatternAnswer) (k : ℕ) (a : PatternAnswer) (v : PatternVerdict) → k < length t → slice_index_or t k a ≡ a → All (λ a. a.verdict ≡ v) t → a.verdict ≡ v
verdict_of t k a v lt at all = ap (λ (x : PatternAnswer). x.verdict) (sym at) ∙ all k a lt

-- the pattern at which a gate fails
abbrev failing_number : CellAnswer → ℕ
failing_number Works = 0
failing_number (Fails k) = k
failing_number (Undecided k) = 0
failing_number (Budget k) = 0
failing_number (Long k) = 0

-- pattern k, counted from j, has a list of which the table says that it fails
abbrev pub FailsAt : ℕ → List PatternAnswer → ℕ → Type 0
FailsAt j t k = (i : ℕ) × (k ≡ j + i) × (i < length t) × ((d : PatternAnswer) → (slice_index_or t i d).verdict ≡ PatternFails)

pub fails_at : (j : ℕ) (t : List PatternAnswer) (k : ℕ) → overall j t ≡ Fails k → FailsAt j t k
fails_at j [] k e = absurd (cc e)
fails_at j (a ∷ later) k e = by a.verdict refl e (λ h. fails_at (j + 1) later k h)
  where
    by : (v : PatternVerdict) → a.verdict ≡ v → verdict_or v j (overall (j + 1) later) ≡ Fails k → (overall (j + 1) later ≡ Fails k → FailsAt (j + 1) later k) → FailsAt j (a ∷ later) k
    by PatternWorks same e next =
        let found = next e in
        let place : k ≡ j + suc found.0 = found.1 ∙ omega arith in
        (suc found.0, place, omega (arith, found.2), found.3)
    by PatternFails same e next =
        let number : j ≡ k = ap failing_number e in
        let place : k ≡ j + 0 = omega (arith, number) in
        (0, place, omega arith, λ d. same)
    by PatternUndecided same e next = absurd (cc e)
