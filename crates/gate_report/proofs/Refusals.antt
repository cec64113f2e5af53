-- reports that differ
use Rattle.std.proofs.Common.{◌≡◌, ℕ, pos, negsuc, List, [], ◌∷◌, length, ap, arith}
use Rattle.std.specs.Fmt.{digits}
use Rattle.std.proofs.lemmas.Int.{ints}
use Rattle.sidb_units.specs.Decimal.{last_digits}
use Rattle.bdl_pairs.specs.declared.verdicts.PatternVerdict.TheVariants.{Works as PatternWorks, Fails as PatternFails, Undecided as PatternUndecided}
use Rattle.bdl_pairs.specs.declared.cell.CellAnswer.{CellAnswer}
use Rattle.bdl_pairs.specs.declared.cell.CellAnswer.TheVariants.{Works, Fails}
use Rattle.gate_report.specs.Answers.{overall}
use Rattle.gate_report.specs.DomainText.{IsPrintable, domain_text}
use Rattle.gate_report.proofs.StandardFacts.{answer, cell}

-- an undecided pattern is not passed over
undecided_is_no_work : overall 0 (answer PatternWorks ∷ answer PatternUndecided ∷ []) ≡ Works → ⊥
undecided_is_no_work is = absurd (cc is)

works_or_fails : domain_text (cell (pos 56000) (pos 50000) Works ∷ []) ≡ domain_text (cell (pos 56000) (pos 50000) (Fails 0) ∷ []) → ⊥
unfolding last_digits digits
works_or_fails is = let differ : 43 ≡ 45 = ap length is in omega (arith, differ)

-- a number below 0 is not printed
below_zero : (a : CellAnswer) → IsPrintable (cell (negsuc 0) (pos 50000) a) → ⊥
below_zero a is = let from = is.eps in omega (arith, ints, from)
