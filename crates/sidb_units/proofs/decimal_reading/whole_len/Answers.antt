use Rattle.std.proofs.Common.{◌≡◌, ℕ, ◌+◌, ◌<◌, ◌≤◌, length, slice_index, ◌⊎◌, inl, inr, arith, rules, subst}
use Rattle.std.proofs.lemmas.Bool.{cases_lt}
use Rattle.sidb_units.specs.Numeral.{CanGoOn, IsDigit, IsNumeral}
use Rattle.sidb_units.proofs.NumeralLemmas.{can_start, can_point, can_fraction, no_start, no_fraction, no_end}
use Rattle.sidb_units.proofs.decimal_reading.whole_len.Goals as goal
use Rattle.sidb_units.proofs.decimal_reading.whole_len.Goals.{then-end-whole-via-then-end-whole, then-end-whole-via-else-end-whole+then-end-text}

pub returns-then-whole-eq0-clause-err : goal.returns-then-whole-eq0-clause-err
returns-then-whole-eq0-clause-err c =
    let text = c.args.text.now in
    let some : 0 < length text = search rules in
    let e : c.digits_end-whole.result ≡ 0 = omega arith in
    let bad : ¬ IsDigit (slice_index text 0) = rw e at (c.digits_end-whole.ensures.stops (omega arith)) in
    (some, record { before = can_start text; here = inl (some, no_start text bad) })

pub returns-then-end-whole-clause-err : goal.returns-then-end-whole-clause-err
returns-then-end-whole-clause-err c =
    let text = c.args.text.now in
    let w : ℕ = c.digits_end-whole.result in
    let at : ℕ = c.digits_end-end.result in
    let some : 0 < w = omega arith in
    let from : w + 1 ≤ at = c.digits_end-end.ensures.from in
    let to : at ≤ length text = c.digits_end-end.ensures.to in
    let point : slice_index text w ≡ 46 = search rules in
    let digits : (i : ℕ) → i < w → IsDigit (slice_index text i) = λ i h. c.digits_end-whole.ensures.digits i (omega arith) h in
    let before : CanGoOn text at = elim (cases_lt (w + 1) at) [
      | inl more ↦ can_fraction text w at some more to digits point (λ i above below. c.digits_end-end.ensures.digits i (omega arith) below)
      | inr less ↦ let e : w + 1 ≡ at = omega arith in subst (λ (n : ℕ). CanGoOn text n) e (can_point text w some (omega arith) digits point)
    ] in
    let here : ((at < length text) × ¬ CanGoOn text (at + 1)) ⊎ ((at ≡ length text) × ((d : ℕ) → ¬ IsNumeral text d)) = elim (cases_lt at (length text)) [
      | inl lt ↦ inl (lt, no_fraction text w at (omega arith) digits point (c.digits_end-end.ensures.stops lt))
      | inr ge ↦
          let e : at ≡ length text = omega arith in
          let last : w + 1 ≡ length text = elim c.then-end-whole.branch [
            | then-end-whole-via-then-end-whole v ↦ omega arith
            | then-end-whole-via-else-end-whole+then-end-text v ↦ absurd (omega arith)
          ] in
          inr (e, no_end text w last digits point)
    ] in
    (omega arith, record { before = before; here = here })
